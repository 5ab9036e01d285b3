-- A word under way: begun, and then collected or given up.
use Rattle.std.specs.Prelude.{ℕ, cond, Some, None, Ok, Err, Option, Result}
use Rattle.planes.specs.declared.refusal.Refusal.{Refusal}
use Rattle.planes.specs.declared.refusal.Refusal.TheVariants.{OffChart, WordUnderWay, NoWordUnderWay}
use Rattle.planes.specs.Chart.{within, window}
use Rattle.registers.specs.State.{with_ahead}
use Rattle.board.specs.declared.slip.Slip.{Slip}
use Rattle.board.specs.State.{State, busy}

-- whether a word can be begun at needle x of course y, or the first refusal that fits
abbrev pub begin_ruling : (x y : ℕ) → State → Result (Unit {0}) Refusal
begin_ruling x y s = cond (busy s) (Err WordUnderWay) (cond (within s.shown.height x y) (Ok tt) (Err OffChart))

-- the word under way is replaced, and nothing else
abbrev pub keeping : Option ℕ → State → State
keeping w s = record s { regs = with_ahead w s.regs }

-- the sixteen stitches from there on are read ahead; a refusal changes nothing
abbrev pub begun_by : Result (Unit {0}) Refusal → (x y : ℕ) → State → State
begun_by (Ok v) x y s = keeping (Some (window s.shown x y)) s
begun_by (Err e) x y s = s

abbrev pub begun : (x y : ℕ) → State → State
begun x y s = begun_by (begin_ruling x y s) x y s

-- what a slip gets: f of the board's own word, or a refusal and the slip back
abbrev pub redeemed : {V : Type 0} → (ℕ → V) → Slip → Option ℕ → Result V (Refusal × Slip)
redeemed f slip (Some w) = Ok (f w)
redeemed f slip None = Err (NoWordUnderWay, slip)
