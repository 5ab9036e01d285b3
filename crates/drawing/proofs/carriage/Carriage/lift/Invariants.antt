use Rattle.std.proofs.Common.{◌≡◌}
use Rattle.words.specs.Bytes.{overlaid}
use Rattle.board.specs.State.{state_of}
use Rattle.drawing.specs.Given.{covers}
use Rattle.drawing.specs.Lifts.{row_words, lifted_byte}
use Rattle.drawing.specs.Setting.{Quiet}
use Rattle.drawing.proofs.Streams.{front_bytes}
use Rattle.drawing.proofs.carriage.Carriage.lift.Given as goal

abbrev pub invariant-loop-k : goal.invariant-loop-k
invariant-loop-k g l = record {
  bytes : l.buffer ≡ overlaid (front_bytes (row_words (covers l.rect)) l.k l.rect.h) (lifted_byte (state_of g.P.Plane l.fn.self.board.now).shown (covers l.rect)) l.initial.buffer;
  quiet : Quiet (state_of g.P.Plane l.fn.self.board.now) (state_of g.P.Plane l.self.board.now);
  lent : l.self.board.ghost_name ≡ l.fn.self.board.ghost_name;
}
