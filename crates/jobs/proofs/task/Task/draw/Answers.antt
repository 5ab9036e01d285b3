use Rattle.std.proofs.Common.{◌≡◌, ◌≤◌, false, Result, ap, ◌∙◌, sym, arith}
use Rattle.std.proofs.lemmas.Grind.{common_steps}
use Rattle.planes.specs.Answer.{instead}
use Rattle.planes.specs.declared.refusal.Refusal.{Refusal}
use Rattle.board.specs.State.{State, state_of, busy}
use Rattle.drawing.specs.declared.rect.Frame.{Frame}
use Rattle.drawing.specs.Figures.{Area}
use Rattle.drawing.specs.Given.{area}
use Rattle.drawing.specs.Fills.{fill_ruling, filled}
use Rattle.jobs.specs.declared.pen.Pen.{Pen}
use Rattle.jobs.specs.declared.task.Task.{Task}
use Rattle.jobs.specs.declared.task.Task.TheVariants.{Fill}
use Rattle.jobs.specs.Walking.{clipped, drawn_by}
use Rattle.jobs.proofs.Draws.{chart_low}
use Rattle.jobs.proofs.task.Task.draw.Goals as goal

-- an accepted fill draws the rectangle that was asked for, and a refused one nothing
fill_drawn : (s : State) (p : Pen) (f : Frame) (a : Area) (r : Result (Unit {0}) Refusal) → busy s ≡ false → s.shown.height ≤ 1024 → a ≡ clipped p.origin (area f) → r ≡ instead tt (fill_ruling s a) →
    filled (fill_ruling s a) p.brush.code p.brush.mask s.shown ≡ drawn_by r p (Fill f) s.shown
fill_drawn s p f a r idle low at told = grind (arith, common_steps)

pub returns-in-Fill-clause-told : goal.returns-in-Fill-clause-told
returns-in-Fill-clause-told g c =
    let low = chart_low (g.P.Plane.height c.args.board.now.plane) (g.P.Plane.stitch c.args.board.now.plane) in
    grind (arith, common_steps)

pub returns-in-Fill-clause-shown : goal.returns-in-Fill-clause-shown
returns-in-Fill-clause-shown g c =
    let was : State = state_of g.P.Plane c.args.board.now in
    let low = chart_low (g.P.Plane.height c.args.board.now.plane) (g.P.Plane.stitch c.args.board.now.plane) in
    c.fill.ensures.shown
    ∙ fill_drawn was c.args.pen c.in-Fill.frame (area c.place.result) c.fill.result c.requires.idle low c.place.ensures c.fill.ensures.told
    ∙ ap (λ (k : Task). drawn_by c.fill.result c.args.pen k was.shown) (sym c.in-Fill.is)
