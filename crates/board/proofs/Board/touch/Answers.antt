use Rattle.std.proofs.Common.{ℕ, ◌-◌, ◌*◌, ◌<◌, ap, ◌∙◌, arith}
use Rattle.planes.specs.Chart.{written}
use Rattle.planes.proofs.Charts.{read_window, window_bit}
use Rattle.planes.proofs.Drawings.{written_drawn}
use Rattle.board.specs.State.{State, state_of}
use Rattle.board.proofs.Board.touch.Goals as goal

pub returns : goal.returns
returns g c =
    let was : State = state_of g.P.Plane c.args.self.now in
    let e = c.in-Ok.ensures in
    let old = read_window _ _ _ _ _ e.told in
    let word : ℕ = c.args.at.word.0 in
    let course : ℕ = c.args.at.course.0 in
    let shown =
    c.write.ensures.put
    ∙ ap (written word course c.put-new.result) e.same
    ∙ written_drawn was.regs.function was.regs.mask c.args.source c.args.here was.shown word course c.put-new.result
    (λ i h.
    let low : 15 - i < 16 = omega arith in
    let made = c.combine-made.ensures (15 - i) low in
    let new = c.put-new.ensures (15 - i) in
    let at = window_bit was.shown (16 * word) course i h in
    cc) in
    record { step = λ i. record { shown = shown i; regs = was.regs; kept = (c.write.ensures.rest ∙ e.rest) i } }
