use Rattle.std.proofs.Common.{◌≡◌, ℕ, ◌+◌, ◌*◌, min, false, List, sym, ap, ◌∙◌, subst, ap₂, rules, arith}
use Rattle.words.specs.Bit.{pack}
use Rattle.words.specs.Bytes.{stored}
use Rattle.board.specs.State.{State, state_of}
use Rattle.board.specs.Steps.{peeking}
use Rattle.drawing.specs.Figures.{Area}
use Rattle.drawing.specs.Given.{covers}
use Rattle.drawing.specs.Lifts.{row_words, lifted_row, lifted_byte}
use Rattle.drawing.specs.Setting.{Aimed, Looked, by_course, strip}
use Rattle.drawing.proofs.Streams.{look_first, look_more, look_row, strip_none, strip_more}
use Rattle.drawing.proofs.carriage.Carriage.lift_strip.Goals as goal

pub loop-j-init : goal.loop-j-init
loop-j-init g c =
    let was : State = state_of g.P.Plane c.args.self.now.board.now in
    let made : State = state_of g.P.Plane c.aim.new.self.board.now in
    let a : Area = covers c.args.rect in
    let down = c.args.rect.down in
    let high = c.args.rect.high in
    let at : a.y ≡ min (a.y + 0) 1023 = omega arith in
    let aimed = subst (λ (b : Area). Aimed b was made) c.strip.ensures.is c.aim.ensures.aimed in
    let step = c.peek.ensures.step ∙ (λ i. peeking (c.by_course.ensures i) made) ∙ ap (λ (y : ℕ). peeking (by_course y false) made) at in
    record {
      looked = subst (λ (t : State). Looked (strip a c.args.k) (min (a.y + 0) 1023) was t) (sym step) (look_first (strip a c.args.k) (min (a.y + 0) 1023) was made aimed);
      bytes = strip_none (row_words a) c.args.k (lifted_byte was.shown a) c.args.buffer.now;
      lent = search rules;
    }

pub loop-j-preserved : goal.loop-j-preserved
loop-j-preserved g c =
    let was : State = state_of g.P.Plane c.args.self.now.board.now in
    let here : State = state_of g.P.Plane c.loop-j.self.board.now in
    let a : Area = covers c.args.rect in
    let k : ℕ = c.args.k in
    let j : ℕ = c.loop-j.j in
    let down = c.args.rect.down in
    let before : min (a.y + j) 1023 ≡ a.y + j = omega arith in
    let after : c.min-next.result ≡ min (a.y + (j + 1)) 1023 = omega (arith, c.min-next.ensures) in
    let looked = subst (λ (y : ℕ). Looked (strip a k) y was here) before c.loop-j.invariant.looked in
    let word : c.peek-word.result ≡ pack (λ i. lifted_row was.shown a j (16 * k + i)) = c.peek-word.ensures.told ∙ look_row a k j was here looked in
    let step = c.peek-word.ensures.step ∙ (λ i. peeking (c.by_course-in-loop-j.ensures i) here) ∙ ap (λ (y : ℕ). peeking (by_course y false) here) after in
    let at : c.from.result * c.from-words.result + c.from-in-loop-j.result ≡ j * row_words a + k =
    ap₂ (λ (m n : ℕ). m + n) (ap₂ (λ (m n : ℕ). m * n) c.from.ensures (c.from-words.ensures ∙ c.row_words.ensures)) c.from-in-loop-j.ensures in
    record {
      looked = subst (λ (t : State). Looked (strip a k) (min (a.y + (j + 1)) 1023) was t) (sym step) (look_more (strip a k) (min (a.y + j) 1023) (min (a.y + (j + 1)) 1023) was here c.loop-j.invariant.looked);
      bytes =
          c.store.ensures
          ∙ ap₂ (λ (n : ℕ) (bs : List ℕ). stored n c.peek-word.result bs) at c.loop-j.invariant.bytes
          ∙ strip_more was.shown a k j c.requires.there c.args.buffer.now c.peek-word.result c.loop-j-test.true c.requires.room word;
      lent = search rules;
    }
