-- How one buffer holds a chart: course y begins at byte 128 y, and needle x is bit 7 - x mod 8 of its byte x div 8.
use Rattle.std.specs.Prelude.{ℕ, ◌+◌, ◌-◌, ◌*◌, ◌/◌, ◌%◌, Bool, List, length, drop, slice_index}
use Rattle.words.specs.Bit.{bit}
use Rattle.planes.specs.Chart.{Height, capped}

-- the number of whole courses, at most 1024
abbrev pub flat_tall : List ℕ → Height
flat_tall bytes = capped (length bytes / 128)

abbrev pub flat_height : List ℕ → ℕ
flat_height bytes = (flat_tall bytes).rows

unfoldable pub flat_on : List ℕ → ℕ → ℕ → Bool
flat_on bytes x y = bit (slice_index bytes (128 * y + x / 8)) (7 - x % 8)

-- the bytes past the last course
unfoldable pub flat_spare : List ℕ → List ℕ
flat_spare bytes = drop (128 * flat_height bytes) bytes
