use Rattle.std.proofs.Common.{ℕ, sym, ◌∙◌, subst, arith}
use Rattle.board.specs.State.{State, state_of}
use Rattle.board.specs.Steps.{poking}
use Rattle.drawing.specs.Setting.{Inked}
use Rattle.drawing.proofs.Accesses.{inked}
use Rattle.drawing.proofs.carriage.Carriage.ink.Goals as goal

pub returns-clause-inked : goal.returns-clause-inked
returns-clause-inked g c =
    let was : State = state_of g.P.Plane c.args.self.now.board.now in
    let code : ℕ = c.args.brush.code in
    let mask : ℕ = c.args.brush.mask in
    let one = c.poke.ensures.step ∙ (λ i. poking (c.from.ensures i) (c.by_needle.ensures i) was) in
    let two = c.poke-2.ensures.step ∙ (λ i. poking mask (c.by_needle-2.ensures i) (one i)) in
    subst (λ (t : State). Inked code mask was t) (sym two) (inked code mask was (omega arith))
