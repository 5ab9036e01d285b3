use Rattle.std.proofs.Common.{◌+◌, sym, ◌∙◌, subst, rules}
use Rattle.board.specs.State.{State, state_of}
use Rattle.board.specs.Steps.{poking}
use Rattle.drawing.specs.Figures.{Area}
use Rattle.drawing.specs.Given.{covers}
use Rattle.drawing.proofs.Strips.{Begun, begun_none, begun_more}
use Rattle.drawing.proofs.carriage.Carriage.fill_strip.Goals as goal

pub loop-course-init : goal.loop-course-init
loop-course-init g c = record {
  begun = begun_none _ _ _ c.aim.ensures.aimed;
  lent = c.aim.ensures.lent;
}

pub loop-course-preserved : goal.loop-course-preserved
loop-course-preserved g c =
    let was : State = state_of g.P.Plane c.args.self.now.board.now in
    let here : State = state_of g.P.Plane c.loop-course.self.board.now in
    let a : Area = covers c.args.strip in
    let step = c.poke.ensures.step ∙ (λ i. poking 65535 (c.by_course.ensures i) here) in
    record {
      begun = subst (λ (t : State). Begun a (c.loop-course.course + 1) was t) (sym step) (begun_more a c.loop-course.course was here c.loop-course.auto.course c.loop-course.invariant.begun);
      lent = search rules;
    }
