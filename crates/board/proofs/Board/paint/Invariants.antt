use Rattle.std.proofs.Common.{◌≡◌, ◌&&◌}
use Rattle.board.specs.State.{state_of}
use Rattle.board.proofs.Screens.{front}
use Rattle.board.proofs.Board.paint.Given as goal

abbrev pub invariant-loop-w : goal.invariant-loop-w
invariant-loop-w g l =
    (l.buffer ≡ front (λ x. l.light && (state_of g.P.Plane l.initial.self).shown.on x l.course.0) l.w l.initial.buffer)
    × (state_of g.P.Plane l.self ≡ state_of g.P.Plane l.initial.self)
