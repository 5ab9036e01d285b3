use Rattle.std.proofs.Common.{sym, refl, ◌∙◌}
use Rattle.jobs.proofs.Walk.{first_taken}
use Rattle.jobs.proofs.fields.FieldsIterator.next.Goals as goal

pub returns-in-Ok-clause-steps : goal.returns-in-Ok-clause-steps
returns-in-Ok-clause-steps c = (refl, first_taken c.args.self.now.rest.now c.args.self.now.spot c.in-Ok.task c.in-Ok.size (sym c.first.ensures ∙ c.in-Ok.is))
