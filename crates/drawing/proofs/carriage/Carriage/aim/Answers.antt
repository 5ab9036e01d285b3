use Rattle.std.proofs.Common.{sym, ◌∙◌, subst}
use Rattle.board.specs.State.{State, state_of}
use Rattle.board.specs.Steps.{poking}
use Rattle.drawing.specs.Figures.{Area}
use Rattle.drawing.specs.Given.{covers}
use Rattle.drawing.specs.Setting.{Aimed}
use Rattle.drawing.proofs.Accesses.{aimed}
use Rattle.drawing.proofs.carriage.Carriage.aim.Goals as goal

pub returns-clause-aimed : goal.returns-clause-aimed
returns-clause-aimed g c =
    let was : State = state_of g.P.Plane c.args.self.now.board.now in
    let a : Area = covers c.args.strip in
    let one = c.poke.ensures.step ∙ (λ i. poking a.w (c.by_needle.ensures i) was) in
    let two = c.poke-2.ensures.step ∙ (λ i. poking 0 (c.by_needle-2.ensures i) (one i)) in
    subst (λ (t : State). Aimed a was t) (sym two) (aimed a was c.args.strip.wide c.requires.narrow)
