-- Fill: whether it is accepted, and the chart that it leaves.
use Rattle.std.specs.Prelude.{ℕ, cond, Ok, Err, Result}
use Rattle.planes.specs.declared.refusal.Refusal.{Refusal}
use Rattle.planes.specs.declared.refusal.Refusal.TheVariants.{WordUnderWay}
use Rattle.planes.specs.Chart.{Chart}
use Rattle.planes.specs.Drawn.{drawn}
use Rattle.board.specs.State.{State, busy}
use Rattle.drawing.specs.Figures.{Area, inside, all_on, ruled}

abbrev pub fill_ruling : State → Area → Result Area Refusal
fill_ruling s a = cond (busy s) (Err WordUnderWay) (ruled s.shown.height a)

-- an accepted fill draws its rectangle with every source bit 1, and a refused one draws nothing
abbrev pub filled : Result Area Refusal → (code mask : ℕ) → Chart → Chart
filled (Ok a) code mask c = drawn (inside a) code mask all_on c
filled (Err e) code mask c = c
