use Rattle.std.proofs.Common.{◌≡◌, ℕ, ◌+◌, ◌*◌, ◌/◌, ◌<◌, Bool, ◌&&◌, List, length, ap, ◌∙◌, ap₂, arith}
use Rattle.words.specs.Bit.{pack}
use Rattle.words.specs.Bytes.{stored}
use Rattle.board.specs.State.{State, state_of}
use Rattle.board.proofs.Screens.{front_more}
use Rattle.board.proofs.Board.paint.Goals as goal

pub loop-w-preserved : goal.loop-w-preserved
loop-w-preserved g c =
    let was : State = state_of g.P.Plane c.args.self.now in
    let y : ℕ = c.args.course.0 in
    let w : ℕ = c.loop-w.w in
    let n : ℕ = c.glimpse-word.result in
    let row : ℕ → Bool = λ x. c.args.light && was.shown.on x y in
    let bytes : List ℕ = c.args.buffer.now in
    let inv = c.loop-w.invariant in
    let e = c.glimpse-word.ensures in
    let room : w < length bytes / 2 = omega arith in
    let is : n ≡ pack (λ i. row (16 * w + i)) = e.told ∙ ap (λ (s : State). pack (λ i. c.args.light && s.shown.on (16 * w + i) y)) inv.1 in (
      c.store.ensures
          ∙ ap₂ (λ (at : ℕ) (bs : List ℕ). stored at n bs) c.from.ensures inv.0
          ∙ front_more row w n bytes room is,
      e.same ∙ inv.1,
    )
