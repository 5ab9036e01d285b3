-- What the answer of a checked job means: the first field that is refused gives the fault.
use Rattle.std.specs.Prelude.{◌≡◌, ℕ, ◌<◌, true, ◌⊎◌, List, [], ◌∷◌, ◌++◌, length, is_ok, Ok, Err, Result}
use Rattle.planes.specs.declared.refusal.Refusal.{Refusal}
use Rattle.planes.specs.declared.refusal.Refusal.TheVariants.{Truncated}
use Rattle.jobs.specs.declared.fault.Fault.{Fault}
use Rattle.jobs.specs.declared.pen.Pen.{Pen}
use Rattle.jobs.specs.declared.task.Task.{Task}
use Rattle.jobs.specs.Format.{Field, Parsed, bytes_of}
use Rattle.jobs.specs.Tasks.{decoded, pen_after}
use Rattle.jobs.specs.Runs.{verdict}

-- the pen that fields leave
abbrev pub pen_by : Result Task Refusal → Pen → Pen
pen_by (Ok k) p = pen_after k p
pen_by (Err e) p = p

abbrev pub pen_through : Pen → List Field → Pen
pen_through p [] = p
pen_through p (f ∷ fs) = pen_through (pen_by (decoded f.tag f.payload) p) fs

-- each field passes, with the pen that those before it leave
abbrev pub Passing : (height : ℕ) → Pen → List Field → Type 0
Passing height p fs = (before after : List Field) (f : Field) → fs ≡ before ++ (f ∷ after) → is_ok (verdict height (pen_through p before) f) ≡ true

-- a field that is refused
pub record Refused (height : ℕ) (p : Pen) (fs before : List Field) (e : Refusal) : Type 0 where
  pub bad : Field
  pub after : List Field
  pub there : fs ≡ before ++ (bad ∷ after)
  pub why : verdict height (pen_through p before) bad ≡ Err e

-- the job's end, where the next field runs past it
pub record CutShort (q : Parsed) (before : List Field) (e : Refusal) : Type 0 where
  pub all : q.fields ≡ before
  pub some : 0 < length q.stump
  pub why : e ≡ Truncated

-- where the fault stands: the fields before it pass, and the one there does not
pub record FirstBad (height : ℕ) (p : Pen) (q : Parsed) (f : Fault) : Type 0 where
  pub before : List Field
  pub passing : Passing height p before
  pub count : f.spot.before ≡ length before
  pub place : f.spot.place ≡ length (bytes_of before)
  pub bad : Refused height p q.fields before f.refusal ⊎ CutShort q before f.refusal

pub record AllPass (height : ℕ) (p : Pen) (q : Parsed) (n : ℕ) : Type 0 where
  pub count : n ≡ length q.fields
  pub ends : q.stump ≡ []
  pub passing : Passing height p q.fields

abbrev pub Judges : (height : ℕ) → Pen → Parsed → Result ℕ Fault → Type 0
Judges height p q (Ok n) = AllPass height p q n
Judges height p q (Err f) = FirstBad height p q f
