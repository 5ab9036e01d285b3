-- How two buffers hold a chart: needle x is in front if it is even and behind if it is odd, in bit 7 - (x div 2) mod 8 of byte 64 y + (x div 2) div 8.
use Rattle.std.specs.Prelude.{ℕ, ◌+◌, ◌-◌, ◌*◌, ◌/◌, ◌%◌, min, Bool, cond, List, length, drop, ◌==◌, slice_index}
use Rattle.words.specs.Bit.{bit}
use Rattle.planes.specs.Chart.{Height, capped}

-- the number of courses that are whole in both, at most 1024
abbrev pub bed_tall : (front back : List ℕ) → Height
bed_tall front back = capped (min (length front / 64) (length back / 64))

abbrev pub bed_height : (front back : List ℕ) → ℕ
bed_height front back = (bed_tall front back).rows

unfoldable pub bed_on : (front back : List ℕ) → ℕ → ℕ → Bool
bed_on front back x y = bit (slice_index (cond (x % 2 == 0) front back) (64 * y + x / 2 / 8)) (7 - x / 2 % 8)

-- the bytes of one bed past the last of h courses
unfoldable pub bed_spare : ℕ → List ℕ → List ℕ
bed_spare h bed = drop (64 * h) bed
