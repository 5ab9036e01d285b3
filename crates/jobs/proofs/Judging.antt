-- The first field that is refused gives the fault.
-- Assumes nothing.
use Rattle.std.proofs.Common.{◌≡◌, ℕ, ◌+◌, ◌⊎◌, List, [], ◌∷◌, ◌++◌, length, is_ok, Ok, Err, Result, sym, refl, ap, ◌∙◌, inl, inr, ⊎_elim, arith}
use Rattle.std.proofs.lemmas.List.{length-append}
use Rattle.planes.specs.Answer.{instead}
use Rattle.planes.specs.declared.refusal.Refusal.{Refusal}
use Rattle.jobs.specs.declared.fault.Fault.{Fault}
use Rattle.jobs.specs.declared.fault.Spot.{Spot}
use Rattle.jobs.specs.declared.pen.Pen.{Pen}
use Rattle.jobs.specs.declared.task.Task.{Task}
use Rattle.jobs.specs.Format.{Field, Parsed, bytes_of, parsed}
use Rattle.jobs.specs.Faults.{start, past}
use Rattle.jobs.specs.Tasks.{decoded, pen_after, task_ruling}
use Rattle.jobs.specs.Runs.{ruled_task, verdict, next, judged, judged_from}
use Rattle.jobs.specs.Verdicts.{pen_by, pen_through, Passing, Refused, CutShort, Judges}

-- the same from a spot on
record BadFrom (height : ℕ) (p : Pen) (s : Spot) (q : Parsed) (f : Fault) : Type 0 where
  before : List Field
  passing : Passing height p before
  count : f.spot.before ≡ s.before + length before
  place : f.spot.place ≡ s.place + length (bytes_of before)
  bad : Refused height p q.fields before f.refusal ⊎ CutShort q before f.refusal

record PassFrom (height : ℕ) (p : Pen) (s : Spot) (q : Parsed) (n : ℕ) : Type 0 where
  count : n ≡ s.before + length q.fields
  ends : q.stump ≡ []
  passing : Passing height p q.fields

abbrev JudgesFrom : (height : ℕ) → Pen → Spot → Parsed → Result ℕ Fault → Type 0
JudgesFrom height p s q (Ok n) = PassFrom height p s q n
JudgesFrom height p s q (Err f) = BadFrom height p s q f

-- a field that passes has its task
task_of : (h : ℕ) (p : Pen) (d : Result Task Refusal) (k : Task) → ruled_task h p d ≡ Ok k → d ≡ Ok k
task_of h p (Err e) k is = cc
task_of h p (Ok j) k is = by (task_ruling h p j) is
  where
    by : (r : Result (Unit {0}) Refusal) → instead j r ≡ Ok k → ◌≡◌ {A = Result Task Refusal} (Ok j) (Ok k)
    by (Ok u) e = e
    by (Err x) e = cc

-- no field is part of none
none_passing : (h : ℕ) (p : Pen) → Passing h p []
none_passing h p [] after f e = cc
none_passing h p (g ∷ before) after f e = cc

-- one field before those that pass
cons_passing : (h : ℕ) (p : Pen) (f : Field) (k : Task) (fs : List Field) → verdict h p f ≡ Ok k → Passing h (pen_after k p) fs → Passing h p (f ∷ fs)
cons_passing h p f k fs is pass [] after g e =
    let same : f ≡ g = cc in
    ap (λ (x : Field). is_ok (verdict h p x)) (sym same) ∙ ap is_ok is
cons_passing h p f k fs is pass (g ∷ before) after x e =
    let same : f ≡ g = cc in
    let rest : fs ≡ before ++ (x ∷ after) = cc in
    let pen : pen_by (decoded g.tag g.payload) p ≡ pen_after k p =
    ap (λ (y : Field). pen_by (decoded y.tag y.payload) p) (sym same) ∙ ap (λ (r : Result Task Refusal). pen_by r p) (task_of h p (decoded f.tag f.payload) k is) in
    ap (λ (y : Pen). is_ok (verdict h (pen_through y before) x)) pen ∙ pass before after x rest

bytes_longer : (f : Field) (fs : List Field) → length (bytes_of (f ∷ fs)) ≡ 3 + length f.payload + length (bytes_of fs)
bytes_longer f fs = omega (arith, length-append f.payload (bytes_of fs))

-- one field more in front
module _ (h : ℕ) (p : Pen) (s : Spot) (f : Field) (k : Task) (fs : List Field) (stump : List ℕ) (is : verdict h p f ≡ Ok k) where
  pen_on : pen_by (decoded f.tag f.payload) p ≡ pen_after k p
  pen_on = ap (λ (r : Result Task Refusal). pen_by r p) (task_of h p (decoded f.tag f.payload) k is)

  still_refused : (before : List Field) (e : Refusal) → Refused h (pen_after k p) fs before e → Refused h p (f ∷ fs) (f ∷ before) e
  still_refused before e r = record {
    bad = r.bad;
    after = r.after;
    there = ap (λ (xs : List Field). f ∷ xs) r.there;
    why = ap (λ (y : Pen). verdict h (pen_through y before) r.bad) pen_on ∙ r.why;
  }

  more : (r : Result ℕ Fault) → JudgesFrom h (pen_after k p) (past (3 + length f.payload) s) (record { fields = fs; stump = stump }) r → JudgesFrom h p s (record { fields = f ∷ fs; stump = stump }) r
  more (Ok n) j = record { count = j.count ∙ omega arith; ends = j.ends; passing = cons_passing h p f k fs is j.passing }
  more (Err x) j = record {
    before = f ∷ j.before;
    passing = cons_passing h p f k j.before is j.passing;
    count = j.count ∙ omega arith;
    place = j.place ∙ omega (arith, bytes_longer f j.before);
    bad = ⊎_elim (λ r. inl (still_refused j.before x.refusal r)) (λ c. inr (record { all = ap (λ (xs : List Field). f ∷ xs) c.all; some = c.some; why = c.why })) j.bad;
  }

judging : (h : ℕ) (p : Pen) (s : Spot) (fs : List Field) (stump : List ℕ) → JudgesFrom h p s (record { fields = fs; stump = stump }) (judged h p s fs stump)
judging h p s [] [] = record { count = omega arith; ends = refl; passing = none_passing h p }
judging h p s [] (b ∷ bs) = record {
  before = [];
  passing = none_passing h p;
  count = omega arith;
  place = omega arith;
  bad = inr (record { all = refl; some = omega arith; why = refl });
}
judging h p s (f ∷ fs) stump = by (verdict h p f) refl (λ k. judging h (pen_after k p) (past (3 + length f.payload) s) fs stump)
  where
    by : (v : Result Task Refusal) → verdict h p f ≡ v →
        ((k : Task) → JudgesFrom h (pen_after k p) (past (3 + length f.payload) s) (record { fields = fs; stump = stump }) (judged h (pen_after k p) (past (3 + length f.payload) s) fs stump)) →
        JudgesFrom h p s (record { fields = f ∷ fs; stump = stump }) (next v s (λ k. judged h (pen_after k p) (past (3 + length f.payload) s) fs stump))
    by (Ok k) is rest = more h p s f k fs stump is (judged h (pen_after k p) (past (3 + length f.payload) s) fs stump) (rest k)
    by (Err e) is rest = record {
      before = [];
      passing = none_passing h p;
      count = omega arith;
      place = omega arith;
      bad = inl (record { bad = f; after = fs; there = refl; why = is });
    }

-- from the first field on
from_start : (h : ℕ) (p : Pen) (q : Parsed) (r : Result ℕ Fault) → JudgesFrom h p start q r → Judges h p q r
from_start h p q (Ok n) j = record { count = j.count ∙ omega arith; ends = j.ends; passing = j.passing }
from_start h p q (Err f) j = record { before = j.before; passing = j.passing; count = j.count ∙ omega arith; place = j.place ∙ omega arith; bad = j.bad }

pub judges : (h : ℕ) (p : Pen) (job : List ℕ) → Judges h p (parsed 0 job) (judged_from h p start job)
judges h p job = from_start h p (parsed 0 job) (judged_from h p start job) (judging h p start (parsed 0 job).fields (parsed 0 job).stump)
