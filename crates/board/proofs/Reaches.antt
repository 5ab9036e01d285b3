-- The stitches that a write updates, as parts of two words.
-- Assumes nothing.
use Rattle.std.proofs.Common.{◌≡◌, ℕ, ◌+◌, ◌-◌, ◌/◌, ◌%◌, ◌<◌, ◌≤◌, Bool, true, ◌&&◌, ◌||◌, ltb, leb, sym, ap, ◌∙◌, arith}
use Rattle.std.proofs.lemmas.Bool.Decides.{nat_tests}
use Rattle.words.specs.Bit.{bit, across, placed}
use Rattle.words.proofs.Whole.{across_left, across_right}
use Rattle.planes.specs.Chart.{Chart, in_word}
use Rattle.planes.specs.Drawn.{drawn, masked, reach, laid, picked}
use Rattle.planes.proofs.Drawings.{drawn_same, drawn_more}

-- place i of two words, where a word of `width` ones is laid from place s on
ones_at : (ones s width i : ℕ) → width ≤ 16 → ((k : ℕ) → k < 16 → bit ones (15 - k) ≡ ltb k width) → placed ones s i ≡ (leb s i && ltb i (s + width))
unfolding placed
ones_at ones s width i narrow is = grind (arith, nat_tests)

-- the place of a needle in the second word
right_place : (l r k : ℕ) → k < 16 → bit r (15 - k) ≡ across l r (16 + k)
right_place l r k h = grind (arith, across_right)

-- the two parts, each by the places of its word
abbrev left_part : (x y width : ℕ) → ℕ → ℕ → Bool
left_part x y width u v = in_word (x / 16) y u v && (leb (x % 16) (u % 16) && ltb (u % 16) (x % 16 + width))

abbrev right_part : (x y width : ℕ) → ℕ → ℕ → Bool
right_part x y width u v = in_word (x / 16 + 1) y u v && (leb (x % 16) (16 + u % 16) && ltb (16 + u % 16) (x % 16 + width))

parts_apart : (x y width u v : ℕ) → left_part x y width u v ≡ true → right_part x y width u v ≡ true → ⊥
parts_apart x y width u v p q = grind (arith, nat_tests)

parts_whole : (x y width u v : ℕ) → width ≤ 16 → reach x y width u v ≡ (left_part x y width u v || right_part x y width u v)
parts_whole x y width u v narrow = grind (arith, nat_tests)

-- a needle of a part lies as far from x as its place in the two words from that of x
left_needle : (x y width u v : ℕ) → left_part x y width u v ≡ true → (x % 16 ≤ u % 16) × (u - x ≡ u % 16 - x % 16)
left_needle x y width u v t = (grind (arith, nat_tests), grind (arith, nat_tests))

right_needle : (x y width u v : ℕ) → width ≤ 16 → right_part x y width u v ≡ true → (u % 16 < x % 16) × (u - x ≡ 16 + u % 16 - x % 16)
right_needle x y width u v narrow t = (grind (arith, nat_tests), grind (arith, nat_tests))

inside : (source s i : ℕ) → s ≤ i → i < s + 16 → placed source s i ≡ bit source (15 - (i - s))
unfolding placed
inside source s i a b = grind (arith, nat_tests)

module _ (code mask x y width ones source hl hr sl sr : ℕ) (narrow : width ≤ 16)
    (are : (k : ℕ) → k < 16 → bit ones (15 - k) ≡ ltb k width)
    (here : (i : ℕ) → i < 32 → across hl hr i ≡ placed ones (x % 16) i)
    (from : (i : ℕ) → i < 32 → across sl sr i ≡ placed source (x % 16) i) where
  left_drawn : (c : Chart) → drawn (picked (x / 16) y hl) code mask (λ u v. masked sl u) c ≡ drawn (left_part x y width) code mask (laid x source) c
  left_drawn c =
      drawn_same code mask c (picked (x / 16) y hl) (left_part x y width) (λ u v. masked sl u) (laid x source)
      (λ u v _. ap (λ (t : Bool). in_word (x / 16) y u v && t) (sym (across_left hl hr (u % 16) (omega arith)) ∙ here (u % 16) (omega arith) ∙ ones_at ones (x % 16) width (u % 16) narrow are))
      (λ u v _ t.
      let (l, e) = left_needle x y width u v t in
      sym (across_left sl sr (u % 16) (omega arith)) ∙ from (u % 16) (omega arith) ∙ inside source (x % 16) (u % 16) l (omega arith) ∙ ap (λ (m : ℕ). bit source (15 - m)) (sym e))

  right_drawn : (c : Chart) → drawn (picked (x / 16 + 1) y hr) code mask (λ u v. masked sr u) c ≡ drawn (right_part x y width) code mask (laid x source) c
  right_drawn c =
      drawn_same code mask c (picked (x / 16 + 1) y hr) (right_part x y width) (λ u v. masked sr u) (laid x source)
      (λ u v _. ap (λ (t : Bool). in_word (x / 16 + 1) y u v && t) (right_place hl hr (u % 16) (omega arith) ∙ here (16 + u % 16) (omega arith) ∙ ones_at ones (x % 16) width (16 + u % 16) narrow are))
      (λ u v _ t.
      let (l, e) = right_needle x y width u v narrow t in
      right_place sl sr (u % 16) (omega arith) ∙ from (16 + u % 16) (omega arith) ∙ inside source (x % 16) (16 + u % 16) (omega arith) (omega arith) ∙ ap (λ (m : ℕ). bit source (15 - m)) (sym e))

  pub both_drawn : (c : Chart) →
      drawn (picked (x / 16 + 1) y hr) code mask (λ u v. masked sr u) (drawn (picked (x / 16) y hl) code mask (λ u v. masked sl u) c) ≡ drawn (reach x y width) code mask (laid x source) c
  both_drawn c =
      ap (drawn (picked (x / 16 + 1) y hr) code mask (λ u v. masked sr u)) (left_drawn c)
      ∙ right_drawn (drawn (left_part x y width) code mask (laid x source) c)
      ∙ drawn_more code mask c (left_part x y width) (right_part x y width) (reach x y width) (laid x source)
      (λ u v _. parts_apart x y width u v) (λ u v _. parts_whole x y width u v narrow)
