-- A whole job: which field is refused first, and what all of them draw.
use Rattle.std.specs.Prelude.{ℕ, ◌+◌, cond, List, [], ◌∷◌, length, Ok, Err, Result, nat_lt}
use Rattle.planes.specs.Answer.{instead}
use Rattle.planes.specs.declared.refusal.Refusal.{Refusal}
use Rattle.planes.specs.declared.refusal.Refusal.TheVariants.{WordUnderWay, JobTooLong, Truncated}
use Rattle.planes.specs.Chart.{Chart}
use Rattle.board.specs.State.{State, busy}
use Rattle.jobs.specs.declared.fault.Fault.{Fault}
use Rattle.jobs.specs.declared.fault.Spot.{Spot}
use Rattle.jobs.specs.declared.pen.Pen.{Pen}
use Rattle.jobs.specs.declared.task.Task.{Task}
use Rattle.jobs.specs.Format.{Field, parsed}
use Rattle.jobs.specs.Faults.{start, past, fault}
use Rattle.jobs.specs.Tasks.{decoded, pen_after, task_ruling, carried}

-- the task of a field, or the first refusal that fits
abbrev pub ruled_task : (height : ℕ) → Pen → Result Task Refusal → Result Task Refusal
ruled_task height p (Ok k) = instead k (task_ruling height p k)
ruled_task height p (Err e) = Err e

abbrev pub verdict : (height : ℕ) → Pen → Field → Result Task Refusal
verdict height p f = ruled_task height p (decoded f.tag f.payload)

-- the fields are tried from the first, each with the pen that holds there; the first that is refused gives the fault
abbrev pub next : Result Task Refusal → Spot → (Task → Result ℕ Fault) → Result ℕ Fault
next (Ok k) s more = more k
next (Err e) s more = Err (fault e s)

abbrev pub ended : List ℕ → Spot → Result ℕ Fault
ended [] s = Ok s.before
ended (b ∷ rest) s = Err (fault Truncated s)

abbrev pub judged : (height : ℕ) → Pen → Spot → List Field → (stump : List ℕ) → Result ℕ Fault
judged height p s [] stump = ended stump s
judged height p s (f ∷ fs) stump = next (verdict height p f) s (λ k. judged height (pen_after k p) (past (3 + length f.payload) s) fs stump)

abbrev pub judged_from : (height : ℕ) → Pen → Spot → List ℕ → Result ℕ Fault
judged_from height p s bytes = judged height p s (parsed 0 bytes).fields (parsed 0 bytes).stump

-- what the fields draw, in their order
abbrev pub carry_next : Result Task Refusal → Chart → (Task → Chart) → Chart
carry_next (Ok k) c more = more k
carry_next (Err e) c more = c

abbrev pub carried_all : Pen → List Field → Chart → Chart
carried_all p [] c = c
carried_all p (f ∷ fs) c = carry_next (decoded f.tag f.payload) c (λ k. carried_all (pen_after k p) fs (carried p k c))

abbrev pub carried_from : Pen → List ℕ → Chart → Chart
carried_from p bytes c = carried_all p (parsed 0 bytes).fields c

-- the number of fields carried out, or the fault
abbrev pub job_answer : (height : ℕ) → Pen → List ℕ → Result ℕ Fault
job_answer height p job = cond (nat_lt 65535 (length job)) (Err (fault JobTooLong start)) (judged_from height p start job)

abbrev pub run_answer : State → Pen → List ℕ → Result ℕ Fault
run_answer s p job = cond (busy s) (Err (fault WordUnderWay start)) (job_answer s.shown.height p job)

-- a refused job draws nothing
abbrev pub ran_to : Result ℕ Fault → Pen → List ℕ → Chart → Chart
ran_to (Ok n) p job c = carried_from p job c
ran_to (Err f) p job c = c

abbrev pub run_chart : State → Pen → List ℕ → Chart
run_chart s p job = ran_to (run_answer s p job) p job s.shown
