-- A lift, read by read.
-- Assumes nothing.
use Rattle.std.proofs.Common.{◌≡◌, ℕ, ◌+◌, ◌-◌, ◌*◌, ◌/◌, ◌%◌, ◌<◌, ◌≤◌, min, Bool, false, cond, ◌&&◌, ◌||◌, eqb, ltb, List, length, Ok, sym, refl, ap, ◌∙◌, ap₂, rules, mod-lt, div-lt_iff_lt-mul, div-add-mod', arith}
use native.Mathlib.Nat.{div-div-eq-div-mul}
use lib.Arith.{digits_lt, digits_div, digits_mod}
use Rattle.std.proofs.Math.Bool.{and_comm}
use Rattle.std.proofs.lemmas.Bool.{lt-ltb}
use Rattle.std.proofs.lemmas.Bool.Decides.{nat_tests}
use Rattle.words.specs.Bit.{bit, pack}
use Rattle.words.specs.Bytes.{overlaid, byte_of, half, stored}
use Rattle.words.proofs.Bits.{pack_same}
use Rattle.words.proofs.Overlays.{overlaid_same, overlaid_none, overlaid_more, overlaid_at, store_more, half_row, byte_bit}
use Rattle.planes.specs.Chart.{Chart, window}
use Rattle.planes.proofs.Charts.{window_bit}
use Rattle.registers.specs.Accesses.{answered}
use Rattle.board.specs.State.{State}
use Rattle.board.specs.Steps.{loading, peeking}
use Rattle.drawing.specs.Figures.{Area}
use Rattle.drawing.specs.Lifts.{row_words, row_bytes, pattern_bytes, lifted_row, lifted_byte, lifted, Rows}
use Rattle.drawing.specs.Setting.{Aimed, Looked, by_course, strip, strip_bytes}

-- ---- one read
pub look_first : (a : Area) (y : ℕ) (s t : State) → Aimed a s t → Looked a y s (peeking (by_course y false) t)
unfolding loading
look_first a y s t p = record {
  quiet = search (rules, arith, nat_tests);
  width_is = p.width_is;
  x_is = p.x_is;
  source_is = λ i. window (p.quiet.shown i) (p.x_is i) y;
}

pub look_more : (a : Area) (y z : ℕ) (s t : State) → Looked a y s t → Looked a z s (peeking (by_course z false) t)
unfolding loading
look_more a y z s t l = record {
  quiet = search (rules, arith, nat_tests);
  width_is = l.width_is;
  x_is = l.x_is;
  source_is = λ i. window (l.quiet.shown i) (l.x_is i) z;
}

-- what the next read answers
look_answer : (a : Area) (y : ℕ) (s t : State) → Looked a y s t → answered t.regs ≡ pack (λ i. s.shown.on (a.x + i) y && ltb i a.w)
unfolding answered
look_answer a y s t l =
    (λ i. pack (λ j. bit (l.source_is i) (15 - j) && ltb j (l.width_is i)))
    ∙ pack_same (λ j. bit (window s.shown a.x y) (15 - j) && ltb j a.w) (λ j. s.shown.on (a.x + j) y && ltb j a.w)
    (λ j h. ap (λ (b : Bool). b && ltb j a.w) (window_bit s.shown a.x y j h))

-- is a word of a row
pub look_row : (a : Area) (k j : ℕ) (s t : State) → Looked (strip a k) (a.y + j) s t → answered t.regs ≡ pack (λ i. lifted_row s.shown a j (16 * k + i))
look_row a k j s t l =
    look_answer (strip a k) (a.y + j) s t l
    ∙ pack_same (λ i. s.shown.on (a.x + 16 * k + i) (a.y + j) && ltb i (min 16 (a.w - 16 * k))) (λ i. lifted_row s.shown a j (16 * k + i))
    (λ i h.
    let at : a.x + 16 * k + i ≡ a.x + (16 * k + i) = omega arith in
    ap₂ (λ (u : ℕ) (b : Bool). s.shown.on u (a.y + j) && b) at (grind (arith, nat_tests)) ∙ and_comm (s.shown.on (a.x + (16 * k + i)) (a.y + j)) (ltb (16 * k + i) a.w))

-- ---- where a word goes
-- word j n + k is word k of row j, where rows have n words
place_tells : (n k j m : ℕ) → k < n → eqb m (j * n + k) ≡ (eqb (m % n) k && eqb (m / n) j)
place_tells n k j m few = grind (arith, nat_tests, digits_div j few, digits_mod j few, div-add-mod' m n)

module _ (c : Chart) (a : Area) (k j : ℕ) (there : 16 * k < a.w) where
  few : k < row_words a
  few = omega arith

  byte_is : (word i : ℕ) → word ≡ pack (λ u. lifted_row c a j (16 * k + u)) → i / 2 ≡ j * row_words a + k → half word i ≡ lifted_byte c a i
  byte_is word i is at =
      let n : ℕ = row_words a in
      let r : ℕ = 2 * k + i % 2 in
      let whole : i ≡ j * (2 * n) + r = grind (arith, at) in
      let small : r < 2 * n = omega (arith, few) in
      let row : i / (2 * n) ≡ j = ap (λ (m : ℕ). m / (2 * n)) whole ∙ digits_div j small in
      let col : i % (2 * n) ≡ r = ap (λ (m : ℕ). m % (2 * n)) whole ∙ digits_mod j small in
      let same : i % 2 ≡ r % 2 = omega arith in
      ap₂ (λ (w m : ℕ). cond (eqb m 0) (w / 256) (w % 256)) is same
      ∙ half_row (lifted_row c a j) k r (omega arith)
      ∙ sym (ap₂ (λ (p q : ℕ). byte_of (lifted_row c a p) q) row col)

  pub strip_more : (xs : List ℕ) (word : ℕ) → j < a.h → pattern_bytes a ≤ length xs → word ≡ pack (λ u. lifted_row c a j (16 * k + u)) →
      stored (j * row_words a + k) word (overlaid (strip_bytes (row_words a) k j) (lifted_byte c a) xs) ≡ overlaid (strip_bytes (row_words a) k (j + 1)) (lifted_byte c a) xs
  strip_more xs word low room is =
      let n : ℕ = row_words a in
      store_more (j * n + k) word (strip_bytes n k j) (strip_bytes n k (j + 1)) (lifted_byte c a) xs (grind (arith, digits_lt low few, room))
      (λ i at. byte_is word i is at) (λ i. grind (arith, nat_tests, place_tells n k j (i / 2) few))

pub strip_none : (n k : ℕ) (f : ℕ → ℕ) (xs : List ℕ) → xs ≡ overlaid (strip_bytes n k 0) f xs
strip_none n k f xs = sym (overlaid_none (strip_bytes n k 0) f xs (λ i. grind (arith, nat_tests)))

-- ---- strip after strip: the words of the first k strips
abbrev pub front_bytes : (n k h : ℕ) → ℕ → Bool
front_bytes n k h i = ltb (i / 2 % n) k && ltb (i / 2 / n) h

pub front_none : (n h : ℕ) (f : ℕ → ℕ) (xs : List ℕ) → xs ≡ overlaid (front_bytes n 0 h) f xs
front_none n h f xs = sym (overlaid_none (front_bytes n 0 h) f xs (λ i. grind (arith, nat_tests)))

pub front_more : (n k h : ℕ) (f : ℕ → ℕ) (xs : List ℕ) → overlaid (strip_bytes n k h) f (overlaid (front_bytes n k h) f xs) ≡ overlaid (front_bytes n (k + 1) h) f xs
front_more n k h f xs =
    overlaid_more (strip_bytes n k h) (front_bytes n k h) f xs
    ∙ overlaid_same (λ i. front_bytes n k h i || strip_bytes n k h i) (front_bytes n (k + 1) h) f f xs (λ i _. grind (arith, nat_tests)) (λ i _ _. refl)

below : (n h i : ℕ) → 0 < n → ltb (i / 2 / n) h ≡ ltb i (2 * n * h)
below n h i some = grind (arith, nat_tests, (div-lt_iff_lt-mul {k = 2 * n} {x = i} {y = h} (omega arith)).0, (div-lt_iff_lt-mul {k = 2 * n} {x = i} {y = h} (omega arith)).1, div-div-eq-div-mul i 2 n)

pub front_all : (a : Area) (k : ℕ) (f : ℕ → ℕ) (xs : List ℕ) → 0 < a.w → k ≡ row_words a → overlaid (front_bytes (row_words a) k a.h) f xs ≡ overlaid (λ i. ltb i (pattern_bytes a)) f xs
front_all a k f xs wide all =
    let n : ℕ = row_words a in
    let some : 0 < n = omega arith in
    overlaid_same (front_bytes n k a.h) (λ i. ltb i (pattern_bytes a)) f f xs
    (λ i _. grind (arith, nat_tests, mod-lt (i / 2) some, below n a.h i some))
    (λ i _ _. refl)

-- ---- the rows of a lift, bit by bit
pub lifted_rows : (c : Chart) (a : Area) (bytes : List ℕ) → pattern_bytes a ≤ length bytes → Rows c a (lifted (Ok a) c bytes)
lifted_rows c a bytes room j i low inside =
    let m : ℕ = row_bytes a in
    let small : i / 8 < m = omega arith in
    let front : j * m + i / 8 < pattern_bytes a = grind (arith, digits_lt low small) in
    ap (λ (n : ℕ). bit n (7 - i % 8)) (overlaid_at (λ k. ltb k (pattern_bytes a)) (lifted_byte c a) bytes (j * m + i / 8) (omega (arith, room, front)) (lt-ltb (j * m + i / 8) (pattern_bytes a) front))
    ∙ ap₂ (λ (p q : ℕ). bit (byte_of (lifted_row c a p) q) (7 - i % 8)) (digits_div j small) (digits_mod j small)
    ∙ byte_bit (lifted_row c a j) i
