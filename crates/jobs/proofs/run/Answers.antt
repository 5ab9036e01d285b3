use Rattle.jobs.proofs.Reading.{apart}
use Rattle.jobs.proofs.run.Goals as goal

pub returns-in_err-blame-clause-format : goal.returns-in_err-blame-clause-format
returns-in_err-blame-clause-format g c = apart c.args.job.now c.type_inv.job

pub returns-then-job-gt-LONGEST-clause-format : goal.returns-then-job-gt-LONGEST-clause-format
returns-then-job-gt-LONGEST-clause-format g c = apart c.args.job.now c.type_inv.job

pub returns-in_err-check-clause-format : goal.returns-in_err-check-clause-format
returns-in_err-check-clause-format g c = apart c.args.job.now c.type_inv.job

pub returns-clause-format : goal.returns-clause-format
returns-clause-format g c = apart c.args.job.now c.type_inv.job
