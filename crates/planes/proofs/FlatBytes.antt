-- What the bytes of a flat plane show, and what a write of two of them does.
-- Assumes nothing.
use Rattle.std.proofs.Common.{◌≡◌, ℕ, ◌+◌, ◌-◌, ◌*◌, ◌/◌, ◌%◌, ◌^◌, ◌<◌, min, List, length, get_or, drop, set, sym, ap, ◌∙◌, ap₂, inl, inr, arith}
use Rattle.std.proofs.lemmas.List.{drop-set-lt, length-set, get_or-set_same, get_or-set_other}
use Rattle.std.proofs.lemmas.Bool.{cases_lt}
use Rattle.words.specs.Bit.{bit}
use Rattle.words.proofs.Bits.{bit_byte_low, bit_byte_high, bit_shr, bit_mod_low}
use Rattle.words.specs.Bytes.{stored}
use Rattle.words.proofs.Overlays.{store_sets}
use Rattle.planes.specs.Chart.{chart, window, written}
use Rattle.planes.specs.FlatLayout.{flat_height, flat_on, flat_spare}
use Rattle.planes.proofs.Charts.{Placed, window_by, written_by}

-- the two bytes of a word, which the buffer has
pub flat_room : (bs : List ℕ) (c y at : ℕ) → Placed (flat_height bs) c y (64 * y + c) at → 2 * at + 1 < length bs
flat_room bs c y at on = omega arith

pub flat_read : (bs : List ℕ) (c y at n : ℕ) → Placed (flat_height bs) c y (64 * y + c) at → n < 2 ^ 16 → get_or bs (2 * at + 1) 0 < 256 →
    n ≡ 256 * get_or bs (2 * at) 0 + get_or bs (2 * at + 1) 0 → n ≡ window (chart (flat_height bs) (flat_on bs)) (16 * c) y
unfolding flat_on
flat_read bs c y at n on small hb is =
    let a : ℕ = get_or bs (2 * at) 0 in
    let b : ℕ = get_or bs (2 * at + 1) 0 in
    let sum : n ≡ a * 256 + b = omega (arith, is) in
    window_by (flat_height bs) (flat_on bs) c y n on.few on.low small (λ i l.
    ap (λ (m : ℕ). bit m (15 - i)) sum
    ∙ elim (cases_lt i 8) [
      | inl s ↦
          let e : 15 - i ≡ 8 + (7 - i) = omega arith in
          let here : 2 * at ≡ 128 * y + (16 * c + i) / 8 = omega arith in
          let k : 7 - i ≡ 7 - (16 * c + i) % 8 = omega arith in
          ap (bit (a * 256 + b)) e ∙ bit_byte_high a b (7 - i) hb ∙ ap₂ (λ (m j : ℕ). bit (get_or bs m 0) j) here k
      | inr s ↦
          let here : 2 * at + 1 ≡ 128 * y + (16 * c + i) / 8 = omega arith in
          let k : 15 - i ≡ 7 - (16 * c + i) % 8 = omega arith in
          bit_byte_low a b (15 - i) (omega arith) ∙ ap₂ (λ (m j : ℕ). bit (get_or bs m 0) j) here k
    ])

-- the bytes with v in the two of word c of course y
module _ (bs : List ℕ) (c y at v : ℕ) (on : Placed (flat_height bs) c y (64 * y + c) at) where
  abbrev after : List ℕ
  after = set (set bs (2 * at) (v / 256)) (2 * at + 1) (v % 256)

  same_length : length after ≡ length bs
  same_length = simp length-set

  first_byte : get_or after (2 * at) 0 ≡ v / 256
  first_byte =
      get_or-set_other (set bs (2 * at) (v / 256)) (2 * at + 1) (2 * at) (v % 256) 0 (omega arith)
      ∙ get_or-set_same bs (2 * at) (v / 256) 0 (omega arith)

  second_byte : get_or after (2 * at + 1) 0 ≡ v % 256
  second_byte =
      let room : 2 * at + 1 < length (set bs (2 * at) (v / 256)) = simp length-set (omega arith) in
      get_or-set_same (set bs (2 * at) (v / 256)) (2 * at + 1) (v % 256) 0 room

  other_byte : (m : ℕ) → (m ≡ 2 * at → ⊥) → (m ≡ 2 * at + 1 → ⊥) → get_or after m 0 ≡ get_or bs m 0
  other_byte m n o =
      get_or-set_other (set bs (2 * at) (v / 256)) (2 * at + 1) m (v % 256) 0 o
      ∙ get_or-set_other bs (2 * at) m (v / 256) 0 n

  stitch_in : (x z : ℕ) → x < 1024 → x / 16 ≡ c → z ≡ y → flat_on after x z ≡ bit v (15 - x % 16)
  unfolding flat_on
  stitch_in x z r d e =
      elim (cases_lt (x % 16) 8) [
        | inl l ↦
            let i : 128 * z + x / 8 ≡ 2 * at = omega arith in
            let k : 8 + (7 - x % 8) ≡ 15 - x % 16 = omega arith in
            ap (λ (m : ℕ). bit m (7 - x % 8)) (ap (λ (m : ℕ). get_or after m 0) i ∙ first_byte) ∙ bit_shr v 8 (7 - x % 8) ∙ ap (bit v) k
        | inr l ↦
            let i : 128 * z + x / 8 ≡ 2 * at + 1 = omega arith in
            let k : 7 - x % 8 ≡ 15 - x % 16 = omega arith in
            ap (λ (m : ℕ). bit m (7 - x % 8)) (ap (λ (m : ℕ). get_or after m 0) i ∙ second_byte) ∙ bit_mod_low v 8 (7 - x % 8) (omega arith) ∙ ap (bit v) k
      ]

  stitch_out : (x z : ℕ) → x < 1024 → (x / 16 ≡ c → z ≡ y → ⊥) → flat_on after x z ≡ flat_on bs x z
  unfolding flat_on
  stitch_out x z r n =
      ap (λ (m : ℕ). bit m (7 - x % 8)) (other_byte (128 * z + x / 8) (λ i. n (omega arith) (omega arith)) (λ i. n (omega arith) (omega arith)))

  written_as : chart (flat_height after) (flat_on after) ≡ written c y v (chart (flat_height bs) (flat_on bs))
  written_as =
      ap (λ (n : ℕ). chart (min 1024 (n / 128)) (flat_on after)) same_length
      ∙ written_by (flat_height bs) (flat_on bs) (flat_on after) c y v stitch_in stitch_out

  spare_stays : flat_spare after ≡ flat_spare bs
  unfolding flat_spare
  spare_stays =
      ap (λ (m : ℕ). drop (128 * min 1024 (m / 128)) after) same_length
      ∙ drop-set-lt (128 * flat_height bs) (set bs (2 * at) (v / 256)) (2 * at + 1) (v % 256) (omega arith)
      ∙ drop-set-lt (128 * flat_height bs) bs (2 * at) (v / 256) (omega arith)

  -- as they are stored
  module _ (new : List ℕ) (is : new ≡ stored at v bs) where
    kept : new ≡ after
    kept = is ∙ sym (store_sets at v bs (omega arith))

    pub flat_write : chart (flat_height new) (flat_on new) ≡ written c y v (chart (flat_height bs) (flat_on bs))
    flat_write = ap (λ (l : List ℕ). chart (flat_height l) (flat_on l)) kept ∙ written_as

    pub flat_spare_stays : flat_spare new ≡ flat_spare bs
    flat_spare_stays = ap flat_spare kept ∙ spare_stays
