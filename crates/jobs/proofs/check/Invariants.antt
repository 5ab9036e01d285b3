use Rattle.std.proofs.Common.{◌≡◌, min}
use Rattle.jobs.specs.Faults.{start}
use Rattle.jobs.specs.Runs.{judged_from}
use Rattle.jobs.proofs.check.Given as goal

-- what is left gives the answer
abbrev pub invariant-loop-field : goal.invariant-loop-field
invariant-loop-field l =
    judged_from (min 1024 l.height) l.pen l.field-iterator.spot l.field-iterator.rest.now ≡ judged_from (min 1024 l.height) l.initial.pen start l.fn.job
