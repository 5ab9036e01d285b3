-- The laws of `bit`.
-- Assumes nothing.
use Rattle.std.proofs.Common.{◌≡◌, ℕ, zero, suc, ◌+◌, ◌-◌, ◌*◌, ◌/◌, ◌%◌, ◌^◌, ◌<◌, ◌≤◌, min, max, Bool, true, false, cond, not, ◌&&◌, ◌||◌, eqb, ltb, sym, refl, ap, ◌∙◌, ap₂, inl, inr, le_of_suc-le-suc, not-suc-le-zero, arith, shr-shr}
use mathlib.Core.Bool.{xor}
use lib.Bits.{bit_and, bit_or, bit_xor}
use lib.Pow.{shl-shr, ones_lt}
use Rattle.std.specs.Int.{bit_at}
use Rattle.std.proofs.lemmas.Bool.{cases_lt, lt-ltb, le-ltb}
use Rattle.std.proofs.lemmas.Bool.Decides.{nat_tests}
use Rattle.std.proofs.lemmas.Nat.{shr_split}
use Rattle.std.proofs.lemmas.Nat.Bits.{bit_at_lowest, bit_at-suc, bit_at-zero, bit_at-lt, bit_at_and, bit_at_or, bit_at_xor, bit_at_ones, bit_at_above, bit_at_cat_low, same_from_bits_below}
use Rattle.words.specs.Bit.{bit, packed, pack}

half_below : {n : ℕ} (k : ℕ) → n < 2 ^ suc k → n / 2 < 2 ^ k
half_below k h = omega arith

-- ---- bit by bit: bit 0, and the bits above it

bit_zero : (n : ℕ) → bit n 0 ≡ eqb (n % 2) 1
unfolding bit
bit_zero n = ap (λ (x : ℕ). eqb x 1) (bit_at_lowest n)

bit_suc : (n k : ℕ) → bit n (suc k) ≡ bit (n / 2) k
unfolding bit
bit_suc n k = ap (λ (x : ℕ). eqb x 1) (bit_at-suc n k)

-- ---- the operations on words

digit_and : (x y : ℕ) → x < 2 → y < 2 → eqb (min x y) 1 ≡ (eqb x 1 && eqb y 1)
digit_and x y hx hy = grind (arith, nat_tests)

digit_or : (x y : ℕ) → x < 2 → y < 2 → eqb (max x y) 1 ≡ (eqb x 1 || eqb y 1)
digit_or x y hx hy = grind (arith, nat_tests)

digit_xor : (x y : ℕ) → x < 2 → y < 2 → eqb ((x + y) % 2) 1 ≡ xor (eqb x 1) (eqb y 1)
unfolding xor
digit_xor zero zero hx hy = refl
digit_xor zero (suc zero) hx hy = refl
digit_xor zero (suc (suc y)) hx hy = let none : ⊥ = omega arith in absurd none
digit_xor (suc zero) zero hx hy = refl
digit_xor (suc zero) (suc zero) hx hy = refl
digit_xor (suc zero) (suc (suc y)) hx hy = let none : ⊥ = omega arith in absurd none
digit_xor (suc (suc x)) y hx hy = let none : ⊥ = omega arith in absurd none

pub bit_of_and : (a b k : ℕ) → bit (bit_and a b) k ≡ (bit a k && bit b k)
unfolding bit
bit_of_and a b k = ap (λ (x : ℕ). eqb x 1) (bit_at_and a b k) ∙ digit_and (bit_at a k) (bit_at b k) (bit_at-lt a k) (bit_at-lt b k)

pub bit_of_or : (a b k : ℕ) → bit (bit_or a b) k ≡ (bit a k || bit b k)
unfolding bit
bit_of_or a b k = ap (λ (x : ℕ). eqb x 1) (bit_at_or a b k) ∙ digit_or (bit_at a k) (bit_at b k) (bit_at-lt a k) (bit_at-lt b k)

pub bit_of_xor : (a b k : ℕ) → bit (bit_xor a b) k ≡ xor (bit a k) (bit b k)
unfolding bit
bit_of_xor a b k = ap (λ (x : ℕ). eqb x 1) (bit_at_xor a b k) ∙ digit_xor (bit_at a k) (bit_at b k) (bit_at-lt a k) (bit_at-lt b k)

-- no number below 2 ^ w has a bit at w or above
pub bit_above : (w n k : ℕ) → n < 2 ^ w → w ≤ k → bit n k ≡ false
unfolding bit
bit_above w n k h le = ap (λ (x : ℕ). eqb x 1) (bit_at_above n w k h le)

-- `x >> j`
pub bit_shr : (n j k : ℕ) → bit (n / 2 ^ j) k ≡ bit n (j + k)
unfolding bit
bit_shr n j k = ap (λ (x : ℕ). eqb (x % 2) 1) (shr-shr n j k)

-- `x << j`, before it is cut to its width
pub bit_shl_low : (a j k : ℕ) → k < j → bit (a * 2 ^ j) k ≡ false
unfolding bit
bit_shl_low a j k h =
    let e : a * 2 ^ j ≡ a * 2 ^ j + 0 = omega arith in
    ap (λ (n : ℕ). eqb (bit_at n k) 1) e ∙ ap (λ (x : ℕ). eqb x 1) (bit_at_cat_low a j 0 k h ∙ bit_at-zero k)

pub bit_shl_high : (a j k : ℕ) → bit (a * 2 ^ j) (j + k) ≡ bit a k
bit_shl_high a j k = sym (bit_shr (a * 2 ^ j) j k) ∙ ap (λ (x : ℕ). bit x k) (shl-shr a j)

-- a number cut to w bits
pub bit_mod_low : (n w k : ℕ) → k < w → bit (n % 2 ^ w) k ≡ bit n k
unfolding bit
bit_mod_low n w k h = ap (λ (x : ℕ). eqb x 1) (sym (bit_at_cat_low (n / 2 ^ w) w (n % 2 ^ w) k h) ∙ ap (λ (m : ℕ). bit_at m k) (shr_split n w))

-- `!x` at w bits
other_digit : (x y : ℕ) → x % 2 + y % 2 ≡ 1 → eqb (x % 2) 1 ≡ not (eqb (y % 2) 1)
other_digit x y e = grind (arith, nat_tests)

pub bit_of_not : (w n k : ℕ) → n < 2 ^ w → k < w → bit ((2 ^ w - 1) - n) k ≡ not (bit n k)
bit_of_not zero n k small h = absurd (not-suc-le-zero h)
bit_of_not (suc w) n zero small h =
    let e : ((2 ^ suc w - 1) - n) % 2 + n % 2 ≡ 1 = omega arith in
    bit_zero ((2 ^ suc w - 1) - n) ∙ other_digit ((2 ^ suc w - 1) - n) n e ∙ ap not (sym (bit_zero n))
bit_of_not (suc w) n (suc k) small h =
    let e : ((2 ^ suc w - 1) - n) / 2 ≡ (2 ^ w - 1) - n / 2 = omega arith in
    bit_suc ((2 ^ suc w - 1) - n) k ∙ ap (λ (x : ℕ). bit x k) e
    ∙ bit_of_not w (n / 2) k (half_below w small) (le_of_suc-le-suc h) ∙ ap not (sym (bit_suc n k))

-- ---- numbers with the same bits are the same

same_digit : (x y : ℕ) → x < 2 → y < 2 → eqb x 1 ≡ eqb y 1 → x ≡ y
same_digit x y hx hy e = grind (arith, nat_tests)

pub same_from_bits : (w a b : ℕ) → a < 2 ^ w → b < 2 ^ w → ((k : ℕ) → k < w → bit a k ≡ bit b k) → a ≡ b
unfolding bit
same_from_bits w a b ha hb same =
    same_from_bits_below w a b ha hb (λ k h. same_digit (bit_at a k) (bit_at b k) (bit_at-lt a k) (bit_at-lt b k) (same k h))

-- ---- a number made of bits

as_digit : (t : Bool) (n : ℕ) → eqb ((2 * n + cond t 1 0) % 2) 1 ≡ t
as_digit true n = let e : (2 * n + 1) % 2 ≡ 1 = omega arith in rw e
as_digit false n = let e : (2 * n + 0) % 2 ≡ 0 = omega arith in rw e

as_rest : (t : Bool) (n : ℕ) → (2 * n + cond t 1 0) / 2 ≡ n
as_rest true n = omega arith
as_rest false n = omega arith

as_below : (t : Bool) (n m : ℕ) → n < m → 2 * n + cond t 1 0 < 2 * m
as_below true n m h = omega arith
as_below false n m h = omega arith

pub packed_lt : (n : ℕ) (f : ℕ → Bool) → packed n f < 2 ^ n
unfolding packed
packed_lt zero f = omega arith
packed_lt (suc n) f = omega (arith, as_below (f n) (packed n f) (2 ^ n) (packed_lt n f))

-- counted from the left: bit n - 1 - i is f i
pub bit_packed : (n : ℕ) (f : ℕ → Bool) (k i : ℕ) → suc (k + i) ≡ n → bit (packed n f) k ≡ f i
unfolding packed
bit_packed zero f k i e = let none : ⊥ = omega arith in absurd none
bit_packed (suc n) f zero i e =
    let here : n ≡ i = omega arith in
    bit_zero (2 * packed n f + cond (f n) 1 0) ∙ as_digit (f n) (packed n f) ∙ ap f here
bit_packed (suc n) f (suc k) i e =
    bit_suc (2 * packed n f + cond (f n) 1 0) k ∙ ap (λ (x : ℕ). bit x k) (as_rest (f n) (packed n f)) ∙ bit_packed n f k i (omega arith)

pub packed_same : (n : ℕ) (f g : ℕ → Bool) → ((i : ℕ) → i < n → f i ≡ g i) → packed n f ≡ packed n g
unfolding packed
packed_same zero f g same = refl
packed_same (suc n) f g same =
    ap₂ (λ (x : ℕ) (t : Bool). 2 * x + cond t 1 0) (packed_same n f g (λ i h. same i (omega arith))) (same n (omega arith))

pub pack_lt : (f : ℕ → Bool) → pack f < 2 ^ 16
unfolding pack
pack_lt f = packed_lt 16 f

pub bit_pack : (f : ℕ → Bool) (i : ℕ) → i < 16 → bit (pack f) (15 - i) ≡ f i
unfolding pack
bit_pack f i h = bit_packed 16 f (15 - i) i (omega arith)

pub pack_same : (f g : ℕ → Bool) → ((i : ℕ) → i < 16 → f i ≡ g i) → pack f ≡ pack g
unfolding pack
pack_same f g same = packed_same 16 f g same

pub pack_from_bits : (w : ℕ) (f : ℕ → Bool) → w < 2 ^ 16 → ((i : ℕ) → i < 16 → bit w (15 - i) ≡ f i) → w ≡ pack f
unfolding pack
pack_from_bits w f small at =
    same_from_bits 16 w (packed 16 f) small (packed_lt 16 f)
    (λ k h.
    let back : 15 - (15 - k) ≡ k = omega arith in
    ap (bit w) (sym back) ∙ at (15 - k) (omega arith) ∙ sym (bit_packed 16 f k (15 - k) (omega arith)))

-- ---- whole words

choose : (c a b : Bool) → ((c && a) || (not c && b)) ≡ cond c a b
choose true true b = refl
choose true false b = refl
choose false a b = refl

-- `(c & a) | (!c & b)` at w bits
pub bit_mux : (w c a b j : ℕ) → c < 2 ^ w → j < w → bit (bit_or (bit_and c a) (bit_and ((2 ^ w - 1) - c) b)) j ≡ cond (bit c j) (bit a j) (bit b j)
bit_mux w c a b j small h =
    bit_of_or (bit_and c a) (bit_and ((2 ^ w - 1) - c) b) j
    ∙ ap₂ ◌||◌ (bit_of_and c a j) (bit_of_and ((2 ^ w - 1) - c) b j ∙ ap (λ t. t && bit b j) (bit_of_not w c j small h))
    ∙ choose (bit c j) (bit a j) (bit b j)

-- all ones, and none
pub bit_none : (k : ℕ) → bit 0 k ≡ false
unfolding bit
bit_none k = ap (λ (x : ℕ). eqb x 1) (bit_at-zero k)

pub bit_ones : (w k : ℕ) → k < w → bit (2 ^ w - 1) k ≡ true
unfolding bit
bit_ones w k h = ap (λ (x : ℕ). eqb x 1) (bit_at_ones w k h)

pub bit_full : (w k : ℕ) → bit (2 ^ w - 1) k ≡ ltb k w
bit_full w k =
    elim (cases_lt k w) [
      | inl a ↦ bit_ones w k a ∙ sym (lt-ltb k w a)
      | inr b ↦ bit_above w (2 ^ w - 1) k (ones_lt w) b ∙ sym (le-ltb k w b)
    ]

-- two bytes as one number
pub bit_byte_low : (a b k : ℕ) → k < 8 → bit (a * 256 + b) k ≡ bit b k
unfolding bit
bit_byte_low a b k h = ap (λ (x : ℕ). eqb x 1) (bit_at_cat_low a 8 b k h)

pub bit_byte_high : (a b k : ℕ) → b < 256 → bit (a * 256 + b) (8 + k) ≡ bit a k
bit_byte_high a b k small =
    let e : (a * 256 + b) / 2 ^ 8 ≡ a = omega arith in
    sym (bit_shr (a * 256 + b) 8 k) ∙ ap (λ (n : ℕ). bit n k) e

-- a bit as a digit
pub digit_of : (n k : ℕ) → cond (bit n k) 1 0 ≡ n / 2 ^ k % 2
unfolding bit
digit_of n k = let h : n / 2 ^ k % 2 < 2 = omega arith in grind (arith, nat_tests)
