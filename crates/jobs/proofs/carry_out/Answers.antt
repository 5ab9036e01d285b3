use Rattle.std.proofs.Common.{rules}
use Rattle.drawing.proofs.Accesses.{spent_more}
use Rattle.jobs.proofs.Draws.{carried_height}
use Rattle.jobs.proofs.carry_out.Goals as goal

pub loop-field-preserved : goal.loop-field-preserved
loop-field-preserved g c = record {
  count = search rules;
  judged = search rules;
  carried = search rules;
  height = search (rules, carried_height);
  spent = search (rules, spent_more);
}
