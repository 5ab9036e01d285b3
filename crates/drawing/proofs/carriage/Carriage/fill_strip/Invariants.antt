use Rattle.std.proofs.Common.{◌≡◌}
use Rattle.board.specs.State.{state_of}
use Rattle.drawing.specs.Given.{covers}
use Rattle.drawing.proofs.Strips.{Begun}
use Rattle.drawing.proofs.carriage.Carriage.fill_strip.Given as goal

abbrev pub invariant-loop-course : goal.invariant-loop-course
invariant-loop-course g l = record {
  begun : Begun (covers l.fn.strip) l.course (state_of g.P.Plane l.fn.self.board.now) (state_of g.P.Plane l.self.board.now);
  lent : l.self.board.ghost_name ≡ l.fn.self.board.ghost_name;
}
