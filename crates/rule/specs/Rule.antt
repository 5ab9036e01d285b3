-- The stitch rule: what each call answers, what it leaves on the chart and what it writes into its buffer, one stitch at a time, with no register.
use Rattle.std.specs.Prelude.{◌≡◌, ℕ, ◌/◌, ◌%◌, Bool, true, false, cond, List, is_some, is_ok, Some, None, Ok, Err, Option, Result, ◌==◌}
use Rattle.planes.specs.declared.refusal.Refusal.{Refusal}
use Rattle.planes.specs.declared.refusal.Refusal.TheVariants.{OffChart, WordUnderWay, NoWordUnderWay}
use Rattle.planes.specs.Chart.{Chart, within, window}
use Rattle.registers.specs.declared.access.Access.{Access}
use Rattle.registers.specs.Accesses.{addressed, unless_busy}
use Rattle.board.specs.Scans.{scan_ruling, scanned}
use Rattle.drawing.specs.Figures.{Area, ruled}
use Rattle.drawing.specs.Fills.{filled}
use Rattle.drawing.specs.Lifts.{roomy, lifted}
use Rattle.jobs.specs.declared.fault.Fault.{Fault}
use Rattle.jobs.specs.declared.pen.Pen.{Pen}
use Rattle.jobs.specs.Faults.{start, fault}
use Rattle.jobs.specs.Runs.{job_answer, ran_to}
use Rattle.rule.specs.declared.Answer.{Answer}
use Rattle.rule.specs.declared.Answer.TheVariants.{Done, Refused, Collected, Ran, Faulty}

-- needle x of course y
pub record Place : Type 0 where
  pub x : ℕ
  pub y : ℕ

-- the chart, the place at which a word was begun that is still under way, and the board's unit
pub record State : Type 0 where
  pub chart : Chart
  pub place : Option Place
  pub unit : ℕ

-- a call with its arguments; of a buffer, its size
pub data Asked : Type 0 where
  fill : Area → (code mask : ℕ) → Asked
  lift : Area → (size : ℕ) → Asked
  run : (job : List ℕ) → Pen → Asked
  begin : (x y : ℕ) → Asked
  collect : Asked
  give_up : Asked
  scan : (course size : ℕ) → Asked
  peek : (address : ℕ) → Asked
  poke : (address value : ℕ) → Asked
  init : Asked
  retrace : Asked
  interrupt : Asked

-- ---- whether a call is refused
abbrev pub under_way : State → Bool
under_way s = is_some s.place

-- nothing is drawn, lifted or begun while a word is under way
abbrev pub when_free : {A : Type 0} → State → Result A Refusal → Result A Refusal
when_free s r = cond (under_way s) (Err WordUnderWay) r

abbrev pub filling : State → Area → Result Area Refusal
filling s a = when_free s (ruled s.chart.height a)

abbrev pub lifting : State → Area → (size : ℕ) → Result Area Refusal
lifting s a size = roomy size (filling s a)

abbrev pub running : State → Pen → (job : List ℕ) → Result ℕ Fault
running s p job = cond (under_way s) (Err (fault WordUnderWay start)) (job_answer s.chart.height p job)

abbrev pub beginning : State → (x y : ℕ) → Result (Unit {0}) Refusal
beginning s x y = when_free s (cond (within s.chart.height x y) (Ok tt) (Err OffChart))

abbrev pub accessing : State → (address : ℕ) → Result Access Refusal
accessing s a = unless_busy (under_way s) (addressed s.unit a)

-- ---- what it answers
abbrev pub settled : {A : Type 0} → Result A Refusal → Answer
settled (Ok a) = Done
settled (Err e) = Refused e

abbrev pub reported : Result ℕ Fault → Answer
reported (Ok n) = Ran n
reported (Err f) = Faulty f

-- the sixteen stitches from the place on, the leftmost in bit 15, or nothing
abbrev pub word_at : Chart → Option Place → Option ℕ
word_at c (Some p) = Some (window c p.x p.y)
word_at c None = None

abbrev pub collected : Option ℕ → Answer
collected (Some w) = Collected w
collected None = Refused NoWordUnderWay

abbrev pub given_up : Option ℕ → Answer
given_up (Some w) = Done
given_up None = Refused NoWordUnderWay

-- ---- one call
-- the answer, what becomes of the buffer if there is one, and the state after it; only what a scan writes depends on whether the screen is lit
pub record Outcome : Type 0 where
  pub answer : Answer
  pub written : (light : Bool) → List ℕ → List ℕ
  pub after : State

-- nothing changes
abbrev pub still : State → Answer → Outcome
still s r = record { answer = r; written = λ light bytes. bytes; after = s }

-- the chart changes
abbrev pub drawing : State → Answer → Chart → Outcome
drawing s r c = record { answer = r; written = λ light bytes. bytes; after = record { chart = c; place = s.place; unit = s.unit } }

-- the place changes
abbrev pub placing : State → Answer → Option Place → Outcome
placing s r p = record { answer = r; written = λ light bytes. bytes; after = record { chart = s.chart; place = p; unit = s.unit } }

-- a word is under way from the place where it is begun until it is collected or given up
abbrev pub begun_at : Result (Unit {0}) Refusal → Place → Option Place → Option Place
begun_at (Ok v) p was = Some p
begun_at (Err e) p was = was

-- a refused call changes nothing
abbrev pub ruling : State → Asked → Outcome
ruling s (fill a code mask) = drawing s (settled (filling s a)) (filled (filling s a) code mask s.chart)
ruling s (lift a size) = record { answer = settled (lifting s a size); written = λ light. lifted (lifting s a size) s.chart; after = s }
ruling s (run job p) = drawing s (reported (running s p job)) (ran_to (running s p job) p job s.chart)
ruling s (begin x y) = placing s (settled (beginning s x y)) (begun_at (beginning s x y) (record { x = x; y = y }) s.place)
ruling s collect = placing s (collected (word_at s.chart s.place)) None
ruling s give_up = placing s (given_up (word_at s.chart s.place)) None
ruling s (scan course size) = record { answer = settled (scan_ruling course size); written = λ light. scanned (scan_ruling course size) light s.chart course; after = s }
ruling s (peek a) = still s (settled (accessing s a))
ruling s (poke a n) = still s (settled (accessing s a))
ruling s init = still s Done
ruling s retrace = still s Done
ruling s interrupt = still s Done

-- the rule does not say what a poke draws: one that is accepted must have its update bit, A16, clear
abbrev pub Clear : State → Asked → Type 0
Clear s (fill a code mask) = Unit {0}
Clear s (lift a size) = Unit {0}
Clear s (run job p) = Unit {0}
Clear s (begin x y) = Unit {0}
Clear s collect = Unit {0}
Clear s give_up = Unit {0}
Clear s (scan course size) = Unit {0}
Clear s (peek a) = Unit {0}
Clear s (poke a n) = is_ok (accessing s a) ≡ true → (a / 65536 % 2 == 1) ≡ false
Clear s init = Unit {0}
Clear s retrace = Unit {0}
Clear s interrupt = Unit {0}
