-- Widths, pairs and coordinates by their numbers.
use Rattle.std.specs.Prelude.{ℕ, ◌%◌, cond, ◌==◌}
use Rattle.registers.specs.declared.access.Pair.{Pair}
use Rattle.registers.specs.declared.access.Pair.TheVariants.{Zero, One, Two, Three}
use Rattle.registers.specs.declared.cursor.Axis.{Axis}
use Rattle.registers.specs.declared.cursor.Axis.TheVariants.{Across, Down}
use Rattle.registers.specs.declared.cursor.Cursor.{Cursor}

-- the width that a control word asks for
abbrev pub decoded : ℕ → ℕ
decoded n = cond (n % 16 == 0) 16 (n % 16)

abbrev pub pair_number : Pair → ℕ
pair_number Zero = 0
pair_number One = 1
pair_number Two = 2
pair_number Three = 3

-- a place with one coordinate replaced
abbrev pub moved : Axis → ℕ → Cursor → Cursor
moved Across v p = record { x = record { 0 = v }; y = p.y }
moved Down v p = record { x = p.x; y = record { 0 = v } }

abbrev pub origin : Cursor
origin = record { x = record { 0 = 0 }; y = record { 0 = 0 } }
