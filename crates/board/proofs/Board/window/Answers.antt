use Rattle.std.proofs.Common.{◌≡◌, ℕ, ◌+◌, ◌*◌, ◌/◌, ◌%◌, ap, ◌∙◌, arith}
use Rattle.planes.specs.Chart.{window}
use Rattle.planes.proofs.Charts.{window_two}
use Rattle.board.specs.State.{State, state_of}
use Rattle.board.proofs.Board.window.Goals as goal

pub returns-clause-told : goal.returns-clause-told
returns-clause-told g c =
    let was : State = state_of g.P.Plane c.args.self.now in
    let x : ℕ = c.args.at.x.0 in
    let y : ℕ = c.args.at.y.0 in
    let whole : 16 * (x / 16) + x % 16 ≡ x = omega arith in
    let asked = c.courses.ensures.same in
    let first : state_of g.P.Plane c.fetch-left.new.self ≡ was = c.fetch-left.ensures.same ∙ (λ i. record { shown = asked i; regs = was.regs; kept = c.courses.ensures.rest i }) in
    let left = c.fetch-left.ensures.told ∙ (λ i. window (asked i) (16 * (c.stretches.ensures.first i).word.0) (c.stretches.ensures.first i).course.0) in
    let right = c.fetch-right.ensures.told ∙ (λ i. window (first i).shown (16 * (c.stretches.ensures.next i).word.0) (c.stretches.ensures.next i).course.0) in
    window_two was.shown (x / 16) y (x % 16) _ _ _ (omega arith) c.window.type_inv left right c.window.ensures ∙ ap (λ (u : ℕ). window was.shown u y) whole
