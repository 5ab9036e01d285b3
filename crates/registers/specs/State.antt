-- The registers as plain values, and the same registers with one of them replaced.
use Rattle.std.specs.Prelude.{ℕ, Bool, false, None, Option, slice_index_or}
use Rattle.registers.specs.declared.cursor.Cursor.{Cursor}
use Rattle.registers.specs.declared.Registers.{Registers}
use Rattle.registers.specs.Codes.{origin}

-- the cursors are given by the number of their pair; `ahead` is the word under way
pub record Regs : Type 0 where
  pub source : ℕ
  pub mask : ℕ
  pub function : ℕ
  pub width : ℕ
  pub status : ℕ
  pub flag : Bool
  pub ahead : Option ℕ
  pub unit : ℕ
  pub cursors : ℕ → Cursor

abbrev pub plain : Registers → Regs
plain r = record { source = r.source; mask = r.mask; function = r.function; width = r.width.stitches; status = r.status; flag = r.flag; ahead = r.ahead; unit = r.unit.number; cursors = λ i. slice_index_or r.cursors i origin }

-- a new board's
abbrev pub fresh : ℕ → Regs
fresh unit = record { source = 0; mask = 0; function = 0; width = 16; status = 0; flag = false; ahead = None; unit = unit; cursors = λ _. origin }

abbrev pub with_source : ℕ → Regs → Regs
with_source n r = record { source = n; mask = r.mask; function = r.function; width = r.width; status = r.status; flag = r.flag; ahead = r.ahead; unit = r.unit; cursors = r.cursors }

abbrev pub with_mask : ℕ → Regs → Regs
with_mask n r = record { source = r.source; mask = n; function = r.function; width = r.width; status = r.status; flag = r.flag; ahead = r.ahead; unit = r.unit; cursors = r.cursors }

abbrev pub with_function : ℕ → Regs → Regs
with_function n r = record { source = r.source; mask = r.mask; function = n; width = r.width; status = r.status; flag = r.flag; ahead = r.ahead; unit = r.unit; cursors = r.cursors }

abbrev pub with_width : ℕ → Regs → Regs
with_width n r = record { source = r.source; mask = r.mask; function = r.function; width = n; status = r.status; flag = r.flag; ahead = r.ahead; unit = r.unit; cursors = r.cursors }

abbrev pub with_flags : (status : ℕ) (flag : Bool) → Regs → Regs
with_flags n f r = record { source = r.source; mask = r.mask; function = r.function; width = r.width; status = n; flag = f; ahead = r.ahead; unit = r.unit; cursors = r.cursors }

abbrev pub with_cursors : (ℕ → Cursor) → Regs → Regs
with_cursors p r = record { source = r.source; mask = r.mask; function = r.function; width = r.width; status = r.status; flag = r.flag; ahead = r.ahead; unit = r.unit; cursors = p }

abbrev pub with_ahead : Option ℕ → Regs → Regs
with_ahead w r = record { source = r.source; mask = r.mask; function = r.function; width = r.width; status = r.status; flag = r.flag; ahead = w; unit = r.unit; cursors = r.cursors }
