-- A line of the picture from a word of sixteen stitches. Only private functions cite this.
use Rattle.std.specs.Prelude.{ℕ, zero, suc, ◌-◌, List, [], ◌∷◌, ◌++◌}
use Rattle.words.specs.Bit.{bit}
use Rattle.charting.specs.Picture.{mark_of}

-- the first n stitches
abbrev pub marks : (n word : ℕ) → List ℕ
marks zero w = []
marks (suc n) w = marks n w ++ (mark_of (bit w (15 - n)) ∷ [])

abbrev pub row_of : ℕ → List ℕ
row_of w = marks 16 w ++ (10 ∷ [])
