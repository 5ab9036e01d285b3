use Rattle.std.proofs.Common.{◌≡◌, map, None}
use Rattle.board.specs.State.{state_of}
use Rattle.rule.specs.Lists.{AllClear}
use Rattle.rule.specs.Calls.{question, request}
use Rattle.rule.specs.Following.{rule_of}
use Rattle.rule.proofs.Turns.{Playing}
use Rattle.rule.proofs.play.Given as goal

abbrev pub invariant-loop-step : goal.invariant-loop-step
invariant-loop-step g l =
    (g.P.Plane.rest l.player.board.plane ≡ g.P.Plane.rest l.initial.player.board.plane)
    × (map request l.step-items ≡ map request l.initial.step-items)
    × (AllClear (rule_of None (state_of g.P.Plane l.initial.player.board)) (map question l.initial.step-items) →
    Playing (rule_of None (state_of g.P.Plane l.initial.player.board)) (state_of g.P.Plane l.initial.player.board).regs.status (map question l.initial.step-items) (state_of g.P.Plane l.player.board) l.step-items l.step-index)
