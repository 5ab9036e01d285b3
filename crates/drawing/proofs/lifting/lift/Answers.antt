use Rattle.std.proofs.Common.{◌≡◌, ℕ, ◌≤◌, List, length, Ok, sym, subst, rules, arith}
use Rattle.board.specs.State.{State, state_of}
use Rattle.drawing.specs.Figures.{Area}
use Rattle.drawing.specs.Given.{area, covers}
use Rattle.drawing.specs.Fills.{fill_ruling}
use Rattle.drawing.specs.Lifts.{pattern_bytes, lifted, Rows}
use Rattle.drawing.proofs.Accesses.{accepted}
use Rattle.drawing.proofs.Streams.{lifted_rows}
use Rattle.drawing.proofs.lifting.lift.Goals as goal

pub returns-clause-rows : goal.returns-clause-rows
returns-clause-rows g c _ =
    let was : State = state_of g.P.Plane c.args.board.now in
    let bytes : List ℕ = c.args.buffer.now in
    let a : Area = covers c.in_ok-rect.rect in
    let told : Ok a ≡ fill_ruling was (area c.args.frame) = search rules in
    let room : pattern_bytes a ≤ length bytes = omega (arith, c.pattern_bytes.ensures) in
    let end : c.lift.new.buffer ≡ lifted (Ok a) was.shown bytes = search rules in
    let rows = subst (λ (bs : List ℕ). Rows was.shown a bs) (sym end) (lifted_rows was.shown a bytes room) in
    subst (λ (b : Area). Rows was.shown b c.lift.new.buffer) (accepted was (area c.args.frame) a told) rows
