-- The words that a read answers and loads.
-- Assumes nothing.
use Rattle.std.proofs.Common.{◌≡◌, ℕ, ◌+◌, ◌-◌, ◌%◌, ◌^◌, ◌<◌, Bool, ◌&&◌, ltb, ap, ◌∙◌, inl, inr, arith}
use lib.Bits.{bit_and, and_lt}
use Rattle.std.proofs.lemmas.Bool.{cases_lt}
use Rattle.words.specs.Bit.{bit, across}
use Rattle.words.proofs.Bits.{bit_of_and, pack_from_bits}
use Rattle.words.proofs.Whole.{across_left, across_right}
use Rattle.registers.specs.State.{Regs}
use Rattle.registers.specs.Accesses.{answered, aligned}

-- the source in the width's bits
pub answer_is : (r : Regs) (m : ℕ) → r.source < 2 ^ 16 → m < 2 ^ 16 → ((k : ℕ) → k < 16 → bit m (15 - k) ≡ ltb k r.width) → bit_and r.source m ≡ answered r
unfolding answered
answer_is r m small few ones =
    pack_from_bits (bit_and r.source m) (λ i. bit r.source (15 - i) && ltb i r.width) (and_lt 16 r.source m small few)
    (λ i h. bit_of_and r.source m (15 - i) ∙ ap (λ (t : Bool). bit r.source (15 - i) && t) (ones i h))

-- a word turned to the places of its needles
across_twice : (w i : ℕ) → i < 32 → across w w i ≡ bit w (15 - i % 16)
across_twice w i h =
    elim (cases_lt i 16) [
      | inl a ↦ let e : i ≡ i % 16 = omega arith in across_left w w i a ∙ ap (λ (m : ℕ). bit w (15 - m)) e
      | inr b ↦ let e : 31 - i ≡ 15 - i % 16 = omega arith in across_right w w i b ∙ ap (bit w) e
    ]

pub turn_is : (w x n : ℕ) → n < 2 ^ 16 → ((k : ℕ) → k < 16 → bit n (15 - k) ≡ across w w ((16 - x % 16) % 16 + k)) → n ≡ aligned x w
turn_is w x n small is =
    pack_from_bits n (λ j. bit w (15 - (j + 16 - x % 16) % 16)) small
    (λ j h.
    let e : ((16 - x % 16) % 16 + j) % 16 ≡ (j + 16 - x % 16) % 16 = omega arith in
    is j h ∙ across_twice w ((16 - x % 16) % 16 + j) (omega arith) ∙ ap (λ (m : ℕ). bit w (15 - m)) e)
