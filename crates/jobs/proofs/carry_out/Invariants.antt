use Rattle.std.proofs.Common.{◌≡◌}
use Rattle.board.specs.State.{state_of}
use Rattle.drawing.specs.Spending.{Spent}
use Rattle.jobs.specs.Faults.{start}
use Rattle.jobs.specs.Runs.{judged_from, carried_from}
use Rattle.jobs.proofs.carry_out.Given as goal

-- what is left gives the answer and the chart
abbrev pub invariant-loop-field : goal.invariant-loop-field
invariant-loop-field g l = record {
  count : l.count ≡ l.field-iterator.spot.before;
  judged :
      judged_from (state_of g.P.Plane l.initial.board).shown.height l.pen l.field-iterator.spot l.field-iterator.rest.now
      ≡ judged_from (state_of g.P.Plane l.initial.board).shown.height l.initial.pen start l.fn.job;
  carried :
      carried_from l.pen l.field-iterator.rest.now (state_of g.P.Plane l.board).shown
      ≡ carried_from l.initial.pen l.fn.job (state_of g.P.Plane l.initial.board).shown;
  height : (state_of g.P.Plane l.board).shown.height ≡ (state_of g.P.Plane l.initial.board).shown.height;
  spent : Spent (state_of g.P.Plane l.initial.board) (state_of g.P.Plane l.board);
}
