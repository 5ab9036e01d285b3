-- Every other bit of a word.
-- Assumes nothing.
use Rattle.std.proofs.Common.{◌≡◌, ℕ, ◌+◌, ◌-◌, ◌*◌, ◌/◌, ◌%◌, ◌^◌, ◌<◌, Bool, false, cond, ◌&&◌, ◌||◌, eqb, ap, ◌∙◌, ap₂, inl, inr, arith}
use lib.Bits.{bit_or}
use Rattle.std.proofs.lemmas.Bool.{cases_eq, eq-eqb, ne_eqb}
use Rattle.std.proofs.Math.Bool.{or-false}
use Rattle.words.specs.Bit.{bit, packed}
use Rattle.words.proofs.Bits.{bit_packed, digit_of, bit_of_or, bit_mod_low, bit_shl_high, bit_shl_low, bit_shr}

-- the sums that the program makes
spread_sum : (b : ℕ) → (b / 16 % 2 + b / 32 % 2 * 4 + b / 64 % 2 * 16 + b / 128 % 2 * 64) * 256 + (b % 2 + b / 2 % 2 * 4 + b / 4 % 2 * 16 + b / 8 % 2 * 64)
    ≡ packed 16 (λ i. eqb ((15 - i) % 2) 0 && bit b ((15 - i) / 2))
unfolding packed
spread_sum b =
    let d0 : cond (bit b 0) 1 0 ≡ b % 2 = digit_of b 0 ∙ omega arith in
    let d1 = digit_of b 1 in
    let d2 = digit_of b 2 in
    let d3 = digit_of b 3 in
    let d4 = digit_of b 4 in
    let d5 = digit_of b 5 in
    let d6 = digit_of b 6 in
    let d7 = digit_of b 7 in
    omega arith

drawn_sum : (v : ℕ) → (v / 256 % 2 + v / 1024 % 2 * 2 + v / 4096 % 2 * 4 + v / 16384 % 2 * 8) * 16 + (v % 2 + v / 4 % 2 * 2 + v / 16 % 2 * 4 + v / 64 % 2 * 8)
    ≡ packed 8 (λ i. bit v (2 * (7 - i)))
unfolding packed
drawn_sum v =
    let d0 : cond (bit v 0) 1 0 ≡ v % 2 = digit_of v 0 ∙ omega arith in
    let d1 = digit_of v 2 in
    let d2 = digit_of v 4 in
    let d3 = digit_of v 6 in
    let d4 = digit_of v 8 in
    let d5 = digit_of v 10 in
    let d6 = digit_of v 12 in
    let d7 = digit_of v 14 in
    omega arith

-- their bits
pub spread_bit : (b k : ℕ) → k < 16 →
    bit ((b / 16 % 2 + b / 32 % 2 * 4 + b / 64 % 2 * 16 + b / 128 % 2 * 64) * 256 + (b % 2 + b / 2 % 2 * 4 + b / 4 % 2 * 16 + b / 8 % 2 * 64)) k ≡ (eqb (k % 2) 0 && bit b (k / 2))
spread_bit b k h =
    let back : 15 - (15 - k) ≡ k = omega arith in
    ap (λ (n : ℕ). bit n k) (spread_sum b) ∙ bit_packed 16 (λ i. eqb ((15 - i) % 2) 0 && bit b ((15 - i) / 2)) k (15 - k) (omega arith)
    ∙ ap (λ (n : ℕ). eqb (n % 2) 0 && bit b (n / 2)) back

pub drawn_bit : (v j : ℕ) → j < 8 →
    bit ((v / 256 % 2 + v / 1024 % 2 * 2 + v / 4096 % 2 * 4 + v / 16384 % 2 * 8) * 16 + (v % 2 + v / 4 % 2 * 2 + v / 16 % 2 * 4 + v / 64 % 2 * 8)) j ≡ bit v (2 * j)
drawn_bit v j h =
    let back : 7 - (7 - j) ≡ j = omega arith in
    ap (λ (n : ℕ). bit n j) (drawn_sum v) ∙ bit_packed 8 (λ i. bit v (2 * (7 - i))) j (7 - j) (omega arith) ∙ ap (λ (n : ℕ). bit v (2 * n)) back

-- two words that have their bits at every other place, side by side
module _ (f s even odd : ℕ) (first : (k : ℕ) → k < 16 → bit f k ≡ (eqb (k % 2) 0 && bit even (k / 2))) (second : (k : ℕ) → k < 16 → bit s k ≡ (eqb (k % 2) 0 && bit odd (k / 2))) where
  left : (i : ℕ) → i < 16 → i % 2 ≡ 0 → bit (bit_or (f * 2 ^ 1 % 2 ^ 16) s) (15 - i) ≡ bit even (7 - i / 2)
  left i h e =
      let up : 15 - i ≡ 1 + (14 - i) = omega arith in
      let place : (14 - i) / 2 ≡ 7 - i / 2 = omega arith in
      let whole : (14 - i) % 2 ≡ 0 = omega arith in
      let odd_place : (15 - i) % 2 ≡ 0 → ⊥ = λ z. omega arith in
      bit_of_or (f * 2 ^ 1 % 2 ^ 16) s (15 - i)
      ∙ ap₂ ◌||◌
      (bit_mod_low (f * 2 ^ 1) 16 (15 - i) (omega arith) ∙ ap (bit (f * 2 ^ 1)) up ∙ bit_shl_high f 1 (14 - i) ∙ first (14 - i) (omega arith) ∙ ap₂ (λ (t : Bool) (n : ℕ). t && bit even n) (eq-eqb ((14 - i) % 2) 0 whole) place)
      (second (15 - i) (omega arith) ∙ ap (λ (t : Bool). t && bit odd ((15 - i) / 2)) (ne_eqb ((15 - i) % 2) 0 odd_place))
      ∙ or-false (bit even (7 - i / 2))

  low_off : (i : ℕ) → i < 16 → (i % 2 ≡ 0 → ⊥) → bit (f * 2 ^ 1 % 2 ^ 16) (15 - i) ≡ false
  low_off i h e =
      elim (cases_eq i 15) [
        | inl z ↦
            let at : 15 - i ≡ 0 = omega arith in
            bit_mod_low (f * 2 ^ 1) 16 (15 - i) (omega arith) ∙ bit_shl_low f 1 (15 - i) (omega arith)
        | inr z ↦
            let up : 15 - i ≡ 1 + (14 - i) = omega arith in
            let odd_place : (14 - i) % 2 ≡ 0 → ⊥ = λ z. omega arith in
            bit_mod_low (f * 2 ^ 1) 16 (15 - i) (omega arith) ∙ ap (bit (f * 2 ^ 1)) up ∙ bit_shl_high f 1 (14 - i) ∙ first (14 - i) (omega arith) ∙ ap (λ (t : Bool). t && bit even ((14 - i) / 2)) (ne_eqb ((14 - i) % 2) 0 odd_place)
      ]

  right : (i : ℕ) → i < 16 → (i % 2 ≡ 0 → ⊥) → bit (bit_or (f * 2 ^ 1 % 2 ^ 16) s) (15 - i) ≡ bit odd (7 - i / 2)
  right i h e =
      let place : (15 - i) / 2 ≡ 7 - i / 2 = omega arith in
      let whole : (15 - i) % 2 ≡ 0 = omega arith in
      bit_of_or (f * 2 ^ 1 % 2 ^ 16) s (15 - i)
      ∙ ap₂ ◌||◌ (low_off i h e) (second (15 - i) (omega arith) ∙ ap₂ (λ (t : Bool) (n : ℕ). t && bit odd n) (eq-eqb ((15 - i) % 2) 0 whole) place)

  pub woven : (i : ℕ) → i < 16 → bit (bit_or (f * 2 ^ 1 % 2 ^ 16) s) (15 - i) ≡ bit (cond (eqb (i % 2) 0) even odd) (7 - i / 2)
  woven i h =
      elim (cases_eq (i % 2) 0) [
        | inl e ↦ rw (eq-eqb (i % 2) 0 e) (left i h e)
        | inr e ↦ rw (ne_eqb (i % 2) 0 e) (right i h e)
      ]

-- and taken apart again
pub dealt : (w even odd : ℕ) → ((j : ℕ) → j < 8 → bit even j ≡ bit (w / 2 ^ 1) (2 * j)) → ((j : ℕ) → j < 8 → bit odd j ≡ bit w (2 * j)) →
    (i : ℕ) → i < 16 → bit (cond (eqb (i % 2) 0) even odd) (7 - i / 2) ≡ bit w (15 - i)
dealt w even odd first second i h =
    elim (cases_eq (i % 2) 0) [
      | inl e ↦
          let place : 1 + 2 * (7 - i / 2) ≡ 15 - i = omega arith in
          rw (eq-eqb (i % 2) 0 e) (first (7 - i / 2) (omega arith) ∙ bit_shr w 1 (2 * (7 - i / 2)) ∙ ap (bit w) place)
      | inr e ↦
          let place : 2 * (7 - i / 2) ≡ 15 - i = omega arith in
          rw (ne_eqb (i % 2) 0 e) (second (7 - i / 2) (omega arith) ∙ ap (bit w) place)
    ]
