-- Bits of two words side by side, and of what is cut out of them and laid over them.
-- Assumes nothing.
use Rattle.std.proofs.Common.{◌≡◌, ℕ, ◌+◌, ◌-◌, ◌*◌, ◌/◌, ◌%◌, ◌^◌, ◌<◌, ◌≤◌, Bool, true, false, cond, not, ◌&&◌, ◌||◌, eqb, ltb, sym, refl, ap, ◌∙◌, ap₂, inl, inr, arith}
use mathlib.Core.Bool.{xor}
use lib.Bits.{bit_and, bit_or, bit_xor, and_mask}
use lib.Pow.{shr_le}
use Rattle.std.proofs.lemmas.Bool.Decides.{nat_tests}
use Rattle.std.proofs.lemmas.Bool.{lt-ltb, le-ltb, le-leb, lt-leb, cond-true, cond-false, cases_lt}
use Rattle.std.proofs.Math.Bool.{or-false}
use Rattle.words.specs.Bit.{bit, across, placed}
use Rattle.words.proofs.Bits.{bit_above, bit_of_not, bit_shr, bit_shl_low, bit_shl_high, bit_mod_low, bit_of_and, bit_of_or, bit_of_xor, bit_full}

pub across_left : (l r i : ℕ) → i < 16 → across l r i ≡ bit l (15 - i)
unfolding across
across_left l r i h = cond-true (ltb i 16) (bit l (15 - i)) (bit r (31 - i)) (lt-ltb i 16 h)

pub across_right : (l r i : ℕ) → 16 ≤ i → across l r i ≡ bit r (31 - i)
unfolding across
across_right l r i h = cond-false (ltb i 16) (bit l (15 - i)) (bit r (31 - i)) (le-ltb i 16 h)

-- thirty-two bits, taken apart
across_split : (n i : ℕ) → i < 32 → across (n / 2 ^ 16) (bit_and n (2 ^ 16 - 1)) i ≡ bit n (31 - i)
across_split n i h =
    elim (cases_lt i 16) [
      | inl a ↦
          let e : 16 + (15 - i) ≡ 31 - i = omega arith in
          across_left (n / 2 ^ 16) (bit_and n (2 ^ 16 - 1)) i a ∙ bit_shr n 16 (15 - i) ∙ ap (bit n) e
      | inr b ↦
          across_right (n / 2 ^ 16) (bit_and n (2 ^ 16 - 1)) i b ∙ ap (λ (x : ℕ). bit x (31 - i)) (and_mask n 16) ∙ bit_mod_low n 16 (31 - i) (omega arith)
    ]

-- `value << (16 - s)` in thirty-two bits
shifted : (n s i : ℕ) → n < 2 ^ 16 → s < 16 → i < 32 → bit (n * 2 ^ (16 - s) % 2 ^ 32) (31 - i) ≡ placed n s i
unfolding placed
shifted n s i small starts h =
    bit_mod_low (n * 2 ^ (16 - s)) 32 (31 - i) (omega arith)
    ∙ elim (cases_lt i s) [
      | inl a ↦
          let e : 31 - i ≡ (16 - s) + (15 + s - i) = omega arith in
          ap (bit (n * 2 ^ (16 - s))) e ∙ bit_shl_high n (16 - s) (15 + s - i) ∙ bit_above 16 n (15 + s - i) small (omega arith)
          ∙ sym (ap (λ (t : Bool). (t && ltb i (s + 16)) && bit n (15 - (i - s))) (lt-leb s i a))
      | inr a ↦
          elim (cases_lt i (s + 16)) [
            | inl b ↦
                let e : 31 - i ≡ (16 - s) + (15 - (i - s)) = omega arith in
                ap (bit (n * 2 ^ (16 - s))) e ∙ bit_shl_high n (16 - s) (15 - (i - s))
                ∙ sym (ap₂ (λ (t u : Bool). (t && u) && bit n (15 - (i - s))) (le-leb s i a) (lt-ltb i (s + 16) b))
            | inr b ↦
                bit_shl_low n (16 - s) (31 - i) (omega arith)
                ∙ sym (ap₂ (λ (t u : Bool). (t && u) && bit n (15 - (i - s))) (le-leb s i a) (le-ltb i (s + 16) b))
          ]
    ]

pub laid : (n s i : ℕ) → n < 2 ^ 16 → s < 16 → i < 32 → across (n * 2 ^ (16 - s) % 2 ^ 32 / 2 ^ 16) (bit_and (n * 2 ^ (16 - s) % 2 ^ 32) (2 ^ 16 - 1)) i ≡ placed n s i
laid n s i small starts h = across_split (n * 2 ^ (16 - s) % 2 ^ 32) i h ∙ shifted n s i small starts h

-- `!(0xffff >> count)`
pub leading : (count k : ℕ) → k < 16 → bit ((2 ^ 16 - 1) - (2 ^ 16 - 1) / 2 ^ count) (15 - k) ≡ ltb k count
leading count k h =
    let small : (2 ^ 16 - 1) / 2 ^ count < 2 ^ 16 = omega (arith, shr_le (2 ^ 16 - 1) count) in
    let past : not (ltb (count + (15 - k)) 16) ≡ ltb k count = grind (arith, nat_tests) in
    bit_of_not 16 ((2 ^ 16 - 1) / 2 ^ count) (15 - k) small (omega arith) ∙ ap not (bit_shr (2 ^ 16 - 1) count (15 - k) ∙ bit_full 16 (count + (15 - k))) ∙ past

-- a test of one bit
pub bit_test : (n k : ℕ) → bit n k ≡ eqb (bit_and (n / 2 ^ k) 1) 1
unfolding bit
bit_test n k = sym (ap (λ (x : ℕ). eqb x 1) (and_mask (n / 2 ^ k) 1))

-- `(left << s) | (right >> (16 - s))`
pub bit_across : (l r s k : ℕ) → r < 2 ^ 16 → 0 < s → s < 16 → k < 16 → bit (bit_or (l * 2 ^ s % 2 ^ 16) (r / 2 ^ (16 - s))) (15 - k) ≡ across l r (s + k)
bit_across l r s k small some few h =
    let right : bit (r / 2 ^ (16 - s)) (15 - k) ≡ bit r (31 - (s + k)) =
    let e : (16 - s) + (15 - k) ≡ 31 - (s + k) = omega arith in
    bit_shr r (16 - s) (15 - k) ∙ ap (bit r) e in
    let cut : bit (l * 2 ^ s % 2 ^ 16) (15 - k) ≡ bit (l * 2 ^ s) (15 - k) = bit_mod_low (l * 2 ^ s) 16 (15 - k) (omega arith) in
    bit_of_or (l * 2 ^ s % 2 ^ 16) (r / 2 ^ (16 - s)) (15 - k)
    ∙ elim (cases_lt (s + k) 16) [
      | inl a ↦
          let e : 15 - k ≡ s + (15 - (s + k)) = omega arith in
          ap₂ ◌||◌ (cut ∙ ap (bit (l * 2 ^ s)) e ∙ bit_shl_high l s (15 - (s + k))) (right ∙ bit_above 16 r (31 - (s + k)) small (omega arith))
          ∙ or-false (bit l (15 - (s + k))) ∙ sym (across_left l r (s + k) a)
      | inr b ↦ ap₂ ◌||◌ (cut ∙ bit_shl_low l s (15 - k) (omega arith)) right ∙ sym (across_right l r (s + k) b)
    ]

-- `old ^ (here & (old ^ new))`
exchange : (m o n : Bool) → xor o (m && xor o n) ≡ cond m n o
unfolding xor
exchange true true true = refl
exchange true true false = refl
exchange true false true = refl
exchange true false false = refl
exchange false true n = refl
exchange false false n = refl

pub bit_put : (o m n j : ℕ) → bit (bit_xor o (bit_and m (bit_xor o n))) j ≡ cond (bit m j) (bit n j) (bit o j)
bit_put o m n j = simp (bit_of_xor, bit_of_and) (exchange (bit m j) (bit o j) (bit n j))
