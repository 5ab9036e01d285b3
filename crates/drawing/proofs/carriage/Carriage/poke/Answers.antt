use Rattle.std.proofs.Common.{ℕ, Result, is_ok, sym, ap, ◌∙◌, subst}
use Rattle.planes.specs.declared.refusal.Refusal.{Refusal}
use Rattle.board.specs.State.{State, state_of}
use Rattle.drawing.specs.Setting.{Ready}
use Rattle.drawing.proofs.Accesses.{taken_told, poked_is, poking_ready}
use Rattle.drawing.proofs.carriage.Carriage.poke.Goals as goal

pub invariant_of-self : goal.invariant_of-self
invariant_of-self g c =
    let was : State = state_of g.P.Plane c.args.self.now.board.now in
    let unit : ℕ = c.args.self.now.unit.number in
    let ready = c.args.self.now.ready in
    let step = c.poke.ensures.step ∙ poked_is unit c.address.result c.args.access was (c.address.ensures.back c.requires.near) ready c.args.value in
    record { ready = subst (λ (t : State). Ready unit t) (sym step) (poking_ready unit c.args.value c.args.access was ready) }

pub unwrap-requires : goal.unwrap-requires
unwrap-requires g c =
    let was : State = state_of g.P.Plane c.args.self.now.board.now in
    let told = c.poke.ensures.told ∙ taken_told c.args.self.now.unit.number c.address.result c.args.access was (c.address.ensures.back c.requires.near) c.args.self.now.ready tt in
    ap (λ (r : Result (Unit {0}) Refusal). is_ok r) told

pub returns-clause-step : goal.returns-clause-step
returns-clause-step g c =
    let was : State = state_of g.P.Plane c.args.self.now.board.now in
    c.poke.ensures.step ∙ poked_is c.args.self.now.unit.number c.address.result c.args.access was (c.address.ensures.back c.requires.near) c.args.self.now.ready c.args.value
