-- The steps of a fill and of a lift: accesses, registers that are set, strips that are drawn or read. Only private functions and proofs cite these.
use Rattle.std.specs.Prelude.{◌≡◌, ℕ, ◌+◌, ◌-◌, ◌*◌, ◌/◌, ◌%◌, min, Bool, false, ◌&&◌, ◌==◌, nat_lt}
use Rattle.planes.specs.Chart.{window}
use Rattle.planes.specs.Drawn.{drawn}
use Rattle.registers.specs.declared.access.Access.{Access}
use Rattle.registers.specs.declared.access.Choice.{Choice}
use Rattle.registers.specs.declared.access.Choice.TheVariants.{Source}
use Rattle.registers.specs.declared.access.Pair.TheVariants.{Three}
use Rattle.registers.specs.declared.cursor.Axis.TheVariants.{Across, Down}
use Rattle.board.specs.State.{State, busy}
use Rattle.drawing.specs.Figures.{Area, inside, all_on}
use Rattle.drawing.specs.Spending.{Spent}

-- a board of this unit that takes accesses
pub record Ready (unit : ℕ) (s : State) : Type 0 where
  pub unit_is : s.regs.unit ≡ unit
  pub idle : busy s ≡ false

-- ---- accesses of pair 3, the only pair that drawings move
-- one that sets the needle; where it goes to a control register, the needle says to which
abbrev pub by_needle : (needle : ℕ) → Choice → Access
by_needle x k = record { place = x; axis = Across; pair = Three; choice = k; update = false }

-- one that sets the course and goes to the source
abbrev pub by_course : (course : ℕ) (update : Bool) → Access
by_course y up = record { place = y; axis = Down; pair = Three; choice = Source; update = up }

-- ---- what accesses come to
-- no stitch changes, and no register but those that a drawing may spend
pub record Quiet (s t : State) : Type 0 where
  pub shown : t.shown ≡ s.shown
  pub spent : Spent s t

-- function and mask are set
pub record Inked (code mask : ℕ) (s t : State) : Type 0 where
  pub quiet : Quiet s t
  pub function_is : t.regs.function ≡ code
  pub mask_is : t.regs.mask ≡ mask

-- width and needle are those of a strip; function and mask stay
pub record Aimed (a : Area) (s t : State) : Type 0 where
  pub quiet : Quiet s t
  pub function_is : t.regs.function ≡ s.regs.function
  pub mask_is : t.regs.mask ≡ s.regs.mask
  pub width_is : t.regs.width ≡ a.w
  pub x_is : (t.regs.cursors 3).x.0 ≡ a.x

-- an area is drawn with every source bit 1, and function and mask are those that it is drawn by
pub record Drew (a : Area) (code mask : ℕ) (s t : State) : Type 0 where
  pub shown : t.shown ≡ drawn (inside a) code mask all_on s.shown
  pub spent : Spent s t
  pub function_is : t.regs.function ≡ code
  pub mask_is : t.regs.mask ≡ mask

-- strip k of an area: sixteen needles, or those that are left
abbrev pub strip : Area → ℕ → Area
strip a k = record { x = a.x + 16 * k; y = a.y; w = min 16 (a.w - 16 * k); h = a.h }

-- ---- the steps of a lift
-- width and needle are those of a strip, and the source holds the sixteen stitches from its left edge on in course y
pub record Looked (a : Area) (y : ℕ) (s t : State) : Type 0 where
  pub quiet : Quiet s t
  pub width_is : t.regs.width ≡ a.w
  pub x_is : (t.regs.cursors 3).x.0 ≡ a.x
  pub source_is : t.regs.source ≡ window s.shown a.x y

-- whether byte i belongs to strip k in one of the first j rows: a row has n words, and byte i is in word i div 2
abbrev pub strip_bytes : (n k j : ℕ) → ℕ → Bool
strip_bytes n k j i = i / 2 % n == k && nat_lt (i / 2 / n) j
