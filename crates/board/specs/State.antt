-- A board as its chart, its registers and what else its plane keeps.
use Rattle.std.specs.Prelude.{ℕ, ◌%◌, Bool, false, cond, List, is_some, Ok, Err, Result}
use Rattle.planes.specs.declared.refusal.Refusal.{Refusal}
use Rattle.planes.specs.declared.refusal.Refusal.TheVariants.{WordUnderWay}
use Rattle.planes.specs.declared.Plane.{Ghosts}
use Rattle.planes.specs.Chart.{Chart, chart_of}
use Rattle.registers.specs.State.{Regs, plain, fresh, with_flags}
use Rattle.registers.specs.Accesses.{retraced}
use Rattle.board.specs.declared.Board.{Board}

pub record State : Type 0 where
  pub shown : Chart
  pub regs : Regs
  pub kept : List (List ℕ)

-- by what a plane of that type means
abbrev pub state_of : {S : Type 0} → Ghosts S → Board S → State
state_of p b = record { shown = chart_of p.height p.stitch b.plane; regs = plain b.registers; kept = p.rest b.plane }

-- a new board, with the low three bits of a number for its unit
abbrev pub fresh_board : ℕ → Chart → (kept : List (List ℕ)) → State
fresh_board n c kept = record { shown = c; regs = fresh (n % 8); kept = kept }

abbrev pub initiated : State → State
initiated s = record s { regs = with_flags 0 false s.regs }

abbrev pub retraced_board : State → State
retraced_board s = record s { regs = retraced s.regs }

-- whether a word is under way; a board that has one takes no access
abbrev pub busy : State → Bool
busy s = is_some s.regs.ahead

abbrev pub free : State → Result (Unit {0}) Refusal
free s = cond (busy s) (Err WordUnderWay) (Ok tt)
