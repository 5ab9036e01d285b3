use Rattle.std.proofs.Common.{◌≡◌, ◌+◌, min}
use Rattle.words.specs.Bytes.{overlaid}
use Rattle.board.specs.State.{state_of}
use Rattle.drawing.specs.Given.{covers}
use Rattle.drawing.specs.Lifts.{row_words, lifted_byte}
use Rattle.drawing.specs.Setting.{Looked, strip, strip_bytes}
use Rattle.drawing.proofs.carriage.Carriage.lift_strip.Given as goal

-- the source holds the course that is next to be answered, and the rows before it are in the buffer
abbrev pub invariant-loop-j : goal.invariant-loop-j
invariant-loop-j g l = record {
  looked : Looked (strip (covers l.rect) l.k) (min (l.rect.y.0 + l.j) 1023) (state_of g.P.Plane l.fn.self.board.now) (state_of g.P.Plane l.self.board.now);
  bytes : l.buffer ≡ overlaid (strip_bytes (row_words (covers l.rect)) l.k l.j) (lifted_byte (state_of g.P.Plane l.fn.self.board.now).shown (covers l.rect)) l.initial.buffer;
  lent : l.self.board.ghost_name ≡ l.fn.self.board.ghost_name;
}
