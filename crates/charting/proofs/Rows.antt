-- The picture, mark by mark and line by line.
-- Assumes nothing.
use Rattle.std.proofs.Common.{◌≡◌, ℕ, zero, suc, ◌+◌, ◌-◌, ◌*◌, ◌/◌, ◌%◌, ◌≤◌, Bool, true, false, cond, eqb, List, [], ◌∷◌, ◌++◌, length, get_or, replicate, sym, refl, ap, ◌∙◌, ap₂, append_assoc, zero-add, add-one, arith}
use lib.ListN.{length-replicate}
use Rattle.words.specs.Bit.{bit}
use Rattle.words.proofs.Bits.{bit_none}
use Rattle.planes.specs.Chart.{Chart, chart, window}
use Rattle.planes.specs.BedLayout.{bed_height, bed_on}
use Rattle.planes.proofs.Charts.{window_bit}
use Rattle.charting.specs.Picture.{mark_of, needles, picture}
use Rattle.charting.specs.Rows.{marks, row_of}

-- the marks of a word are those of its stitches
marks_needles : (n : ℕ) (c : Chart) (y : ℕ) → n ≤ 16 → marks n (window c 0 y) ≡ needles n c y
marks_needles zero c y h = refl
marks_needles (suc n) c y h =
    ap₂ (λ (xs : List ℕ) (b : Bool). xs ++ (mark_of b ∷ [])) (marks_needles n c y (omega arith))
    (window_bit c 0 y n (omega arith) ∙ ap (λ (x : ℕ). c.on x y) (zero-add n))

-- one course more
pub picture_more : (c : Chart) (y w : ℕ) (was now text : List ℕ) → w ≡ window c 0 y → was ≡ text ++ picture y c → now ≡ was ++ row_of w → now ≡ text ++ picture (y + 1) c
picture_more c y w was now text is inv pushed =
    pushed
    ∙ ap₂ (λ (xs : List ℕ) (v : ℕ). xs ++ row_of v) inv is
    ∙ ap (λ (row : List ℕ). (text ++ picture y c) ++ (row ++ (10 ∷ []))) (marks_needles 16 c y (omega arith))
    ∙ append_assoc text (picture y c) (needles 16 c y ++ (10 ∷ []))
    ∙ ap (λ (k : ℕ). text ++ picture k c) (sym (add-one y))

-- ---- two blank beds
-- a list of zeros has a zero at every place
zeros : (n i : ℕ) → ◌≡◌ {A = ℕ} (get_or (replicate n 0) i 0) 0
zeros zero i = refl
zeros (suc n) zero = refl
zeros (suc n) (suc i) = zeros n i

either_zero : (b : Bool) (n i : ℕ) → ◌≡◌ {A = ℕ} (get_or (cond b (replicate n 0) (replicate n 0)) i 0) 0
either_zero true n i = zeros n i
either_zero false n i = zeros n i

tall : bed_height (replicate 65536 0) (replicate 65536 0) ≡ 1024
tall = let long : length (replicate {A = ℕ} 65536 0) ≡ 65536 = length-replicate {A = ℕ} 65536 0 in omega arith

none_on : (x y : ℕ) → bed_on (replicate 65536 0) (replicate 65536 0) x y ≡ false
unfolding bed_on
none_on x y = ap (λ (n : ℕ). bit n (7 - x / 2 % 8)) (either_zero (eqb (x % 2) 0) 65536 (64 * y + x / 2 / 8)) ∙ bit_none (7 - x / 2 % 8)

pub blank_beds : (fs bs : List ℕ) → fs ≡ replicate 65536 0 → bs ≡ replicate 65536 0 → chart (bed_height fs bs) (bed_on fs bs) ≡ chart 1024 (λ x y. false)
blank_beds fs bs is that =
    ap₂ (λ (f b : List ℕ). chart (bed_height f b) (bed_on f b)) is that
    ∙ (λ i. chart (tall i) (λ x y. none_on x y i))
