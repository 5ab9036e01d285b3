use Rattle.std.proofs.Common.{◌≡◌}
use Rattle.board.specs.State.{state_of}
use Rattle.drawing.specs.Given.{covers}
use Rattle.drawing.specs.Setting.{Drew}
use Rattle.drawing.proofs.Strips.{front}
use Rattle.drawing.proofs.carriage.Carriage.fill.Given as goal

abbrev pub invariant-loop-k : goal.invariant-loop-k
invariant-loop-k g l = record {
  drew : Drew (front (covers l.rect) l.k) l.fn.brush.code l.fn.brush.mask (state_of g.P.Plane l.fn.self.board.now) (state_of g.P.Plane l.self.board.now);
  lent : l.self.board.ghost_name ≡ l.fn.self.board.ghost_name;
}
