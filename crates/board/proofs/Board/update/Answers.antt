use Rattle.std.proofs.Common.{◌≡◌, ℕ, ◌+◌, ◌/◌, ltb, ap, ◌∙◌, arith}
use Rattle.planes.specs.Chart.{Chart}
use Rattle.planes.specs.Drawn.{drawn, picked, masked, reach, laid}
use Rattle.registers.specs.declared.cursor.Cursor.{Cursor}
use Rattle.registers.specs.State.{Regs}
use Rattle.board.specs.State.{State, state_of}
use Rattle.board.specs.Steps.{updated}
use Rattle.board.proofs.Reaches.{both_drawn}
use Rattle.board.proofs.Board.update.Goals as goal

pub returns : goal.returns
unfolding updated
returns g c =
    let was : State = state_of g.P.Plane c.args.self.now in
    let r : Regs = was.regs in
    let at : Cursor = c.cursor-at.result in
    let x : ℕ = at.x.0 in
    let y : ℕ = at.y.0 in
    let source : ℕ = r.source in
    let put : Regs → (w v here n : ℕ) → Chart → Chart = λ q w v here n. drawn (picked w v here) q.function q.mask (λ u v. masked n u) in
    let one : state_of g.P.Plane c.touch.new.self ≡ record { shown = put r (x / 16) y c.lay-here.result.0 c.lay-lead.result.0 was.shown; regs = r; kept = was.kept } =
    c.touch.ensures.step ∙ (λ i. record { shown = put r (c.stretches.ensures.first i).word.0 (c.stretches.ensures.first i).course.0 c.lay-here.result.0 c.lay-lead.result.0 (c.courses.ensures.same i); regs = r; kept = c.courses.ensures.rest i }) in
    let two : state_of g.P.Plane c.touch-2.new.self ≡ record { shown = put r (x / 16 + 1) y c.lay-here.result.1 c.lay-lead.result.1 (put r (x / 16) y c.lay-here.result.0 c.lay-lead.result.0 was.shown); regs = r; kept = was.kept } =
    c.touch-2.ensures.step ∙ (λ i. record { shown = put (one i).regs (c.stretches.ensures.next i).word.0 (c.stretches.ensures.next i).course.0 c.lay-here.result.1 c.lay-lead.result.1 (one i).shown; regs = (one i).regs; kept = (one i).kept }) in
    let all =
    both_drawn r.function r.mask x y r.width c.ones-ones.result source c.lay-here.result.0 c.lay-here.result.1 c.lay-lead.result.0 c.lay-lead.result.1 (omega arith)
    (λ k h. c.ones-ones.ensures k h ∙ ap (ltb k) c.stitches.ensures) c.lay-here.ensures c.lay-lead.ensures was.shown
    ∙ (λ i. drawn (reach (c.cursor-at.ensures i).x.0 (c.cursor-at.ensures i).y.0 r.width) r.function r.mask (laid (c.cursor-at.ensures i).x.0 source) was.shown) in
    record { step = two ∙ (λ i. record { shown = all i; regs = r; kept = was.kept }) }
