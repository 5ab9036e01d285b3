use Rattle.std.proofs.Common.{◌≡◌, rules, ℕ, ◌<◌, List, map, length, None, ap, ◌∙◌, arith}
use Rattle.std.proofs.Math.Seq.{map-set_same}
use Rattle.board.specs.State as board
use Rattle.board.specs.State.{state_of}
use Rattle.board.specs.Slips.{begin_ruling}
use Rattle.planes.specs.contracts.flat.FlatPlane.TheImpl.{ghosts}
use Rattle.rule.specs.declared.Step.{Step}
use Rattle.rule.specs.Calls.{question, request}
use Rattle.rule.specs.Following.{rule_of}
use Rattle.rule.proofs.Turns.{playing_more}
use Rattle.rule.proofs.Spares.{corner_taken}
use Rattle.rule.proofs.play.Goals as goal

pub unwrap-spare-requires : goal.unwrap-spare-requires
unwrap-spare-requires g c =
    let x : c.default.result.x.0 ≡ 0 = search rules in
    let y : c.default.result.y.0 ≡ 0 = search rules in
    let taken = c.begin.ensures.told ∙ (λ i. begin_ruling (x i) (y i) (state_of ghosts c.new-other.result)) ∙ corner_taken _ _ _ c.new-other.ensures.made (ap length c.new.ensures.held) in
    search rules

pub loop-step-preserved : goal.loop-step-preserved
loop-step-preserved g c =
    let new : board.State = state_of g.P.Plane c.new-player.result.board in
    let was : board.State = state_of g.P.Plane c.loop-step.player.board in
    let end : board.State = state_of g.P.Plane c.perform-answer.new.self.board in
    let steps : List Step = c.loop-step.step-items in
    let i : ℕ = c.loop-step.step-index in
    let lt : i < length steps = omega arith in
    let d : Step = c.step-item.result in
    let k : Step = record { call = c.perform-answer.new.call; answer = c.perform-answer.result.0 } in
    let e = c.perform-answer.ensures in
    let inv = c.loop-step.invariant in (
      e.kept ∙ inv.0,
      map-set_same request steps i k d e.call ∙ inv.1,
      λ clear. playing_more steps i d k lt e.call (rule_of None new) new.regs.status (map question c.args.steps.now) was end (inv.2 clear) e.rule,
    )
