use Rattle.std.proofs.Common.{◌≡◌, ℕ, List, ◌∙◌, ap₂, rules, arith}
use Rattle.words.specs.Bytes.{overlaid}
use Rattle.planes.specs.Chart.{Chart}
use Rattle.board.specs.State.{State, state_of}
use Rattle.drawing.specs.Figures.{Area}
use Rattle.drawing.specs.Given.{covers}
use Rattle.drawing.specs.Lifts.{row_words, lifted_byte}
use Rattle.drawing.specs.Setting.{strip_bytes}
use Rattle.drawing.proofs.Streams.{front_none, front_more, front_all}
use Rattle.drawing.proofs.carriage.Carriage.lift.Goals as goal

pub loop-k-init : goal.loop-k-init
loop-k-init g c =
    let was : State = state_of g.P.Plane c.args.self.now.board.now in
    let a : Area = covers c.args.rect in
    record {
      bytes = front_none (row_words a) a.h (lifted_byte was.shown a) c.args.buffer.now;
      quiet = search rules;
      lent = search rules;
    }

pub loop-k-preserved : goal.loop-k-preserved
loop-k-preserved g c =
    let was : State = state_of g.P.Plane c.args.self.now.board.now in
    let a : Area = covers c.args.rect in
    let k : ℕ = c.loop-k.k in
    let inv = c.loop-k.invariant in
    record {
      bytes =
          c.lift_strip.ensures.bytes
          ∙ ap₂ (λ (d : Chart) (bs : List ℕ). overlaid (strip_bytes (row_words a) k a.h) (lifted_byte d a) bs) inv.quiet.shown inv.bytes
          ∙ front_more (row_words a) k a.h (lifted_byte was.shown a) c.args.buffer.now;
      quiet = search rules;
      lent = search rules;
    }

pub returns-clause-bytes : goal.returns-clause-bytes
returns-clause-bytes g c =
    let was : State = state_of g.P.Plane c.args.self.now.board.now in
    let a : Area = covers c.args.rect in
    let wide = c.args.rect.wide in
    let all : c.loop-k.k ≡ row_words a = omega (arith, c.row_words-k-end.ensures) in
    c.loop-k.invariant.bytes ∙ front_all a c.loop-k.k (lifted_byte was.shown a) c.args.buffer.now (omega arith) all
