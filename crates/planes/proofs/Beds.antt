-- What two beds show, and what a write of a byte in each does.
-- Assumes nothing.
use Rattle.std.proofs.Common.{◌≡◌, ℕ, ◌+◌, ◌-◌, ◌*◌, ◌/◌, ◌%◌, ◌^◌, ◌<◌, Bool, true, false, cond, eqb, List, [], ◌∷◌, length, get_or, drop, set, refl, ap, ◌∙◌, ap₂, mod-eq_of_lt, arith}
use native.Mathlib.Nat.{add-mul-mod_self_right}
use Rattle.std.proofs.lemmas.List.{drop-set-lt, length-set, get_or-set_same, get_or-set_other}
use Rattle.words.specs.Bit.{bit}
use Rattle.planes.specs.Chart.{chart, window, written}
use Rattle.planes.specs.BedLayout.{bed_height, bed_on, bed_spare}
use Rattle.planes.proofs.Charts.{Placed, window_by, written_by}

-- the byte of the bed that has a needle
chosen_byte : (fs bs : List ℕ) (b : Bool) (m : ℕ) → cond b (get_or fs m 0) (get_or bs m 0) ≡ get_or (cond b fs bs) m 0
chosen_byte fs bs true m = refl
chosen_byte fs bs false m = refl

pub bed_room : (fs bs : List ℕ) (c y at : ℕ) → Placed (bed_height fs bs) c y (64 * y + c) at → (at < length fs) × (at < length bs)
bed_room fs bs c y at on = (omega arith, omega arith)

pub bed_read : (fs bs : List ℕ) (c y at n : ℕ) → Placed (bed_height fs bs) c y (64 * y + c) at → n < 2 ^ 16 →
    ((i : ℕ) → i < 16 → bit n (15 - i) ≡ bit (cond (eqb (i % 2) 0) (get_or fs at 0) (get_or bs at 0)) (7 - i / 2)) →
    n ≡ window (chart (bed_height fs bs) (bed_on fs bs)) (16 * c) y
unfolding bed_on
bed_read fs bs c y at n on small is =
    window_by (bed_height fs bs) (bed_on fs bs) c y n on.few on.low small (λ i h.
    let parity : i % 2 ≡ (16 * c + i) % 2 = omega arith in
    let place : at ≡ 64 * y + (16 * c + i) / 2 / 8 = omega arith in
    let k : 7 - i / 2 ≡ 7 - (16 * c + i) / 2 % 8 = omega arith in
    is i h ∙ ap (λ (m : ℕ). bit m (7 - i / 2)) (chosen_byte fs bs (eqb (i % 2) 0) at)
    ∙ ap₂ (λ (m j : ℕ). bit (get_or (cond (eqb (i % 2) 0) fs bs) m 0) j) place k
    ∙ ap (λ (m : ℕ). bit (get_or (cond (eqb m 0) fs bs) (64 * y + (16 * c + i) / 2 / 8) 0) (7 - (16 * c + i) / 2 % 8)) parity)

-- one bed, written
module _ (bed : List ℕ) (c y at x z u : ℕ) (p : c < 64) (here : at ≡ 64 * y + c) (q : at < length bed) (r : x < 1024) where
  bed_in : x / 16 ≡ c → z ≡ y → get_or (set bed at u) (64 * z + x / 2 / 8) 0 ≡ u
  bed_in d e =
      let i : 64 * z + x / 2 / 8 ≡ at = omega arith in
      ap (λ (m : ℕ). get_or (set bed at u) m 0) i ∙ get_or-set_same bed at u 0 q

  bed_out : (x / 16 ≡ c → z ≡ y → ⊥) → get_or (set bed at u) (64 * z + x / 2 / 8) 0 ≡ get_or bed (64 * z + x / 2 / 8) 0
  bed_out n = get_or-set_other bed at (64 * z + x / 2 / 8) u 0 (λ i. n (omega arith) (omega arith))

half_place : (x : ℕ) → x / 2 % 8 ≡ x % 16 / 2
half_place x =
    let e : x / 2 ≡ x % 16 / 2 + x / 16 * 8 = omega arith in
    let small : x % 16 / 2 < 8 = omega arith in
    ap (λ (n : ℕ). n % 8) e ∙ add-mul-mod_self_right (x % 16 / 2) (x / 16) 8 ∙ mod-eq_of_lt small

either : (b : Bool) (m n : List ℕ) (u w : ℕ) (k i : ℕ) → get_or (cond b (set m k u) (set n k w)) i 0 ≡ get_or (set (cond b m n) k (cond b u w)) i 0
either true m n u w k i = refl
either false m n u w k i = refl

either_length : (b : Bool) (m n : List ℕ) (k : ℕ) → k < length m → k < length n → k < length (cond b m n)
either_length true m n k p q = p
either_length false m n k p q = q

module _ (fs bs : List ℕ) (c y at v u w : ℕ) (on : Placed (bed_height fs bs) c y (64 * y + c) at) (is : (i : ℕ) → i < 16 → bit (cond (eqb (i % 2) 0) u w) (7 - i / 2) ≡ bit v (15 - i)) where
  abbrev fs' : List ℕ
  fs' = set fs at u

  abbrev bs' : List ℕ
  bs' = set bs at w

  stitch_in : (x z : ℕ) → x < 1024 → x / 16 ≡ c → z ≡ y → bed_on fs' bs' x z ≡ bit v (15 - x % 16)
  unfolding bed_on
  stitch_in x z r d e =
      let b : Bool = eqb (x % 2) 0 in
      let room = either_length b fs bs at (omega arith) (omega arith) in
      let parity : x % 2 ≡ x % 16 % 2 = omega arith in
      let k = ap (λ (m : ℕ). 7 - m) (half_place x) in
      ap (λ (m : ℕ). bit m (7 - x / 2 % 8)) (either b fs bs u w at (64 * z + x / 2 / 8) ∙ bed_in (cond b fs bs) c y at x z (cond b u w) on.few on.is room r d e)
      ∙ ap₂ (λ (m j : ℕ). bit (cond (eqb m 0) u w) j) parity k ∙ is (x % 16) (omega arith)

  stitch_out : (x z : ℕ) → x < 1024 → (x / 16 ≡ c → z ≡ y → ⊥) → bed_on fs' bs' x z ≡ bed_on fs bs x z
  unfolding bed_on
  stitch_out x z r n =
      let b : Bool = eqb (x % 2) 0 in
      let room = either_length b fs bs at (omega arith) (omega arith) in
      ap (λ (m : ℕ). bit m (7 - x / 2 % 8)) (either b fs bs u w at (64 * z + x / 2 / 8) ∙ bed_out (cond b fs bs) c y at x z (cond b u w) on.few on.is room r n)

  same_height : bed_height fs' bs' ≡ bed_height fs bs
  same_height = simp length-set

  pub bed_write : chart (bed_height fs' bs') (bed_on fs' bs') ≡ written c y v (chart (bed_height fs bs) (bed_on fs bs))
  bed_write =
      ap (λ (n : ℕ). chart n (bed_on fs' bs')) same_height
      ∙ written_by (bed_height fs bs) (bed_on fs bs) (bed_on fs' bs') c y v stitch_in stitch_out

  spare_stays : (bed : List ℕ) (n : ℕ) → bed_spare (bed_height fs' bs') (set bed at n) ≡ bed_spare (bed_height fs bs) bed
  unfolding bed_spare
  spare_stays bed n = ap (λ (h : ℕ). drop (64 * h) (set bed at n)) same_height ∙ drop-set-lt (64 * bed_height fs bs) bed at n (omega arith)

  pub bed_rest : (m n : ℕ) → ◌≡◌ {A = List (List ℕ)} ((m ∷ bed_spare (bed_height fs' bs') fs') ∷ (n ∷ bed_spare (bed_height fs' bs') bs') ∷ []) ((m ∷ bed_spare (bed_height fs bs) fs) ∷ (n ∷ bed_spare (bed_height fs bs) bs) ∷ [])
  bed_rest m n = ap₂ (λ (l k : List ℕ). (m ∷ l) ∷ (n ∷ k) ∷ []) (spare_stays fs u) (spare_stays bs w)
