-- What the rule says where no word is under way, of the calls that begin none and have no buffer: answers and charts as a rule without a place has them, over every list.
-- Last, what the clauses of `play` say of a list of these calls. Assumes nothing. No other proof cites it.
use Rattle.std.proofs.Common.{◌≡◌, ℕ, ◌/◌, ◌%◌, false, eqb, List, [], ◌∷◌, map, None, Ok, Err, Result, refl, sym, ap, ap₂, ◌∙◌, subst}
use Rattle.planes.specs.Chart.{Chart}
use Rattle.planes.specs.declared.refusal.Refusal.{Refusal}
use Rattle.registers.specs.declared.access.Access.{Access}
use Rattle.registers.specs.Accesses.{addressed, unless_busy}
use Rattle.board.specs.Scans.{lit}
use Rattle.drawing.specs.Figures.{ruled}
use Rattle.drawing.specs.Fills.{filled}
use Rattle.jobs.specs.Runs.{job_answer, ran_to}
use Rattle.rule.specs.declared.Answer.{Answer}
use Rattle.rule.specs.declared.Answer.TheVariants.{Done}
use Rattle.rule.specs.declared.Call.{Call}
use Rattle.rule.specs.declared.Call.TheVariants.{Fill, Lift, Run, Begin, Collect, GiveUp, Scan, Peek, Poke, Init, Retrace, Interrupt}
use Rattle.rule.specs.declared.Step.{Step}
use Rattle.rule.specs.Rule.{State, Asked, Outcome, Clear, fill, lift, run, begin, collect, give_up, scan, peek, poke, init, retrace, interrupt, settled, reported, ruling}
use Rattle.rule.specs.Lists.{Question, Told, AllClear, at_first, status_after, final, outcomes}
use Rattle.rule.specs.Calls.{unbuffered, asked, question, request, told}

-- these calls
abbrev pub Plain : Asked → Type 0
Plain (lift a size) = ⊥
Plain (begin x y) = ⊥
Plain collect = ⊥
Plain give_up = ⊥
Plain (scan course size) = ⊥
Plain (fill a code mask) = Unit {0}
Plain (run job p) = Unit {0}
Plain (peek a) = Unit {0}
Plain (poke a n) = Unit {0}
Plain init = Unit {0}
Plain retrace = Unit {0}
Plain interrupt = Unit {0}

abbrev pub Quiet : Asked → Type 0
Quiet (poke a n) = eqb (a / 65536 % 2) 1 ≡ false
Quiet other = Unit {0}

abbrev pub AllPlain : List Question → Type 0
AllPlain [] = Unit {0}
AllPlain (q ∷ more) = Plain q.call × AllPlain more

-- no poke has its update bit set
abbrev pub AllQuiet : List Question → Type 0
AllQuiet [] = Unit {0}
AllQuiet (q ∷ more) = Quiet q.call × AllQuiet more

-- ---- a rule of a chart and a unit alone
abbrev pub plain_answer : Chart → (unit : ℕ) → Asked → Answer
plain_answer c u (fill a code mask) = settled (ruled c.height a)
plain_answer c u (run job p) = reported (job_answer c.height p job)
plain_answer c u (peek a) = settled (addressed u a)
plain_answer c u (poke a n) = settled (addressed u a)
plain_answer c u other = Done

abbrev pub plain_chart : Chart → Asked → Chart
plain_chart c (fill a code mask) = filled (ruled c.height a) code mask c
plain_chart c (run job p) = ran_to (job_answer c.height p job) p job c
plain_chart c other = c

abbrev pub plain_final : Chart → List Question → Chart
plain_final c [] = c
plain_final c (q ∷ more) = plain_final (plain_chart c q.call) more

abbrev pub plain_told : Chart → (unit : ℕ) → List Question → List Told
plain_told c u [] = []
plain_told c u (q ∷ more) = record { question = q; answer = plain_answer c u q.call } ∷ plain_told (plain_chart c q.call) u more

-- ---- is the rule where no word is under way
abbrev pub free : Chart → ℕ → State
free c u = record { chart = c; place = None; unit = u }

abbrev pub plain_outcome : Chart → ℕ → Asked → Outcome
plain_outcome c u a = record { answer = plain_answer c u a; written = λ light bytes. bytes; after = free (plain_chart c a) u }

unbusy : (q : Result Access Refusal) → settled (unless_busy false q) ≡ settled q
unbusy (Ok k) = refl
unbusy (Err e) = refl

one : (c : Chart) (u : ℕ) (a : Asked) → Plain a → ruling (free c u) a ≡ plain_outcome c u a
one c u (lift a size) p = absurd p
one c u (begin x y) p = absurd p
one c u collect p = absurd p
one c u give_up p = absurd p
one c u (scan course size) p = absurd p
one c u (fill a code mask) p = refl
one c u (run job q) p = refl
one c u (peek a) p = λ i. record { answer = unbusy (addressed u a) i; written = λ light bytes. bytes; after = free c u }
one c u (poke a n) p = λ i. record { answer = unbusy (addressed u a) i; written = λ light bytes. bytes; after = free c u }
one c u init p = refl
one c u retrace p = refl
one c u interrupt p = refl

-- the last chart of a list, with no word under way after it
pub finals : (c : Chart) (u : ℕ) (qs : List Question) → AllPlain qs → final (free c u) qs ≡ free (plain_final c qs) u
finals c u [] p = refl
finals c u (q ∷ more) p = ap (λ (o : Outcome). final o.after more) (one c u q.call p.0) ∙ finals (plain_chart c q.call) u more p.1

-- its answers, with each call as it was
pub tolds : (c : Chart) (u status : ℕ) (qs : List Question) → AllPlain qs → outcomes (free c u) status qs ≡ plain_told c u qs
tolds c u status [] p = refl
tolds c u status (q ∷ more) p =
    let later : ℕ = status_after (free c u) q.call status in
    ap (λ (o : Outcome). record { question = record { call = q.call; bytes = o.written (lit status) q.bytes }; answer = o.answer } ∷ outcomes o.after later more) (one c u q.call p.0)
    ∙ ap (λ (xs : List Told). record { question = q; answer = plain_answer c u q.call } ∷ xs) (tolds (plain_chart c q.call) u later more p.1)

-- and the premise of the lists: where no poke has its update bit set, every call is clear
clear : (s : State) (a : Asked) → Plain a → Quiet a → Clear s a
clear s (lift a size) p q = absurd p
clear s (begin x y) p q = absurd p
clear s collect p q = absurd p
clear s give_up p q = absurd p
clear s (scan course size) p q = absurd p
clear s (fill a code mask) p q = tt
clear s (run job w) p q = tt
clear s (peek a) p q = tt
clear s (poke a n) p q = λ ok. q
clear s init p q = tt
clear s retrace p q = tt
clear s interrupt p q = tt

pub all_clear : (s : State) (qs : List Question) → AllPlain qs → AllQuiet qs → AllClear s qs
all_clear s [] p q = tt
all_clear s (x ∷ more) p q = (clear s x.call p.0 q.0, all_clear (ruling s x.call).after more p.1 q.1)

-- ---- what `play` says of a list of these calls
-- each of them is all its arguments
unbuffered_is : (k : Call) → Plain (asked k).call → asked k ≡ unbuffered (asked k).call
unbuffered_is (Fill f b) p = refl
unbuffered_is (Lift f buffer) p = absurd p
unbuffered_is (Run job w) p = refl
unbuffered_is (Begin at) p = absurd p
unbuffered_is Collect p = absurd p
unbuffered_is GiveUp p = absurd p
unbuffered_is (Scan y buffer) p = absurd p
unbuffered_is (Peek a) p = refl
unbuffered_is (Poke a n) p = refl
unbuffered_is Init p = refl
unbuffered_is Retrace p = refl
unbuffered_is Interrupt p = refl

abbrev AllPlainCalls : List Asked → Type 0
AllPlainCalls [] = Unit {0}
AllPlainCalls (a ∷ more) = Plain a × AllPlainCalls more

plain_calls : (steps : List Step) → AllPlain (map question steps) → AllPlainCalls (map request steps)
plain_calls [] p = tt
plain_calls (s ∷ more) p = (p.0, plain_calls more p.1)

all_arguments : (steps : List Step) → AllPlainCalls (map request steps) → map question steps ≡ map unbuffered (map request steps)
all_arguments [] p = refl
all_arguments (s ∷ more) p = ap₂ (λ (q : Question) (qs : List Question). q ∷ qs) (unbuffered_is s.call p.0) (all_arguments more p.1)

-- the steps before and after, the unit's number and the chart below, and the chart then: each premise that ends in `→` is a clause of `play`
module _ (before after : List Step) (n : ℕ) (c : Chart) (plain : AllPlain (map question before)) where
  -- the clause `answers`
  pub smaller_answers : AllQuiet (map question before)
      → (AllClear (at_first n c) (map question before) → map told after ≡ outcomes (at_first n c) 0 (map question before))
      → map told after ≡ plain_told c (n % 8) (map question before)
  smaller_answers quiet answers =
      answers (all_clear (at_first n c) (map question before) plain quiet)
      ∙ tolds c (n % 8) 0 (map question before) plain

  -- the clause `chart`
  pub smaller_chart : (d : Chart) → AllQuiet (map question before)
      → (AllClear (at_first n c) (map question before) → d ≡ (final (at_first n c) (map question before)).chart)
      → d ≡ plain_final c (map question before)
  smaller_chart d quiet chart =
      chart (all_clear (at_first n c) (map question before) plain quiet)
      ∙ ap (λ (s : State). s.chart) (finals c (n % 8) (map question before) plain)

  -- the clause `calls`: each call with all its arguments stays
  pub smaller_calls : map request after ≡ map request before → map question after ≡ map question before
  smaller_calls calls =
      let were = plain_calls before plain in
      all_arguments after (subst AllPlainCalls (sym calls) were)
      ∙ ap (map unbuffered) calls
      ∙ sym (all_arguments before were)
