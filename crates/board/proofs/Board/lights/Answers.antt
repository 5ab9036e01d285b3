use Rattle.std.proofs.Common.{ℕ, ◌&&◌, ltb, ap, ◌∙◌}
use Rattle.board.specs.State.{State, state_of}
use Rattle.board.proofs.Screens.{lights_on}
use Rattle.board.proofs.Board.lights.Goals as goal

pub returns-then-self-eq1-clause-told : goal.returns-then-self-eq1-clause-told
returns-then-self-eq1-clause-told g c =
    let was : State = state_of g.P.Plane c.args.self.now in
    let y : ℕ = c.args.course.0 in
    λ x.
    ap (λ (n : ℕ). ltb y n && was.shown.on x y) c.courses.ensures.told
    ∙ lights_on (g.P.Plane.height c.args.self.now.plane).rows (g.P.Plane.stitch c.args.self.now.plane) was.regs.status y x c.if-self-eq1.true
