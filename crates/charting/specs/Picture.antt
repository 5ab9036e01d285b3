-- What the program `chart` prints.
use Rattle.std.specs.Prelude.{ℕ, zero, suc, Bool, false, cond, List, [], ◌∷◌, ◌++◌, Ok, Err, codes, decimal, Result}
use Rattle.planes.specs.Chart.{Chart, chart}
use Rattle.jobs.specs.declared.fault.Fault.{Fault}
use Rattle.jobs.specs.declared.pen.Pen.{Pen}
use Rattle.jobs.specs.Faults.{fault_text}
use Rattle.jobs.specs.Runs.{job_answer, ran_to}

-- ---- the first line: how the job went
abbrev pub line : Result ℕ Fault → List ℕ
line (Ok n) = codes "ran " ++ (decimal n ++ codes "\n")
line (Err f) = fault_text f ++ codes "\n"

-- ---- the picture: # for on, . for off
abbrev pub mark_of : Bool → ℕ
mark_of b = cond b 35 46

-- the first n needles of course y
abbrev pub needles : (n : ℕ) → Chart → (y : ℕ) → List ℕ
needles zero c y = []
needles (suc n) c y = needles n c y ++ (mark_of (c.on n y) ∷ [])

-- the first n courses, a line each
abbrev pub picture : (n : ℕ) → Chart → List ℕ
picture zero c = []
picture (suc n) c = picture n c ++ (needles 16 c n ++ (10 ∷ []))

-- ---- a job on a plane
abbrev pub pen_at_start : Pen
pen_at_start = record { brush = record { code = 0xCC; mask = 0xFFFF }; origin = record { x = record { 0 = 0 }; y = record { 0 = 0 } } }

abbrev pub report : Chart → List ℕ → List ℕ
report c job = line (job_answer c.height pen_at_start job) ++ picture 8 (ran_to (job_answer c.height pen_at_start job) pen_at_start job c)

-- and on a blank one of 1024 courses
abbrev pub blank : Chart
blank = chart 1024 (λ x y. false)

abbrev pub charted : List ℕ → List ℕ
charted job = report blank job
