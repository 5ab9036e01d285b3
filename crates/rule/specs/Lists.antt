-- Lists of calls by the stitch rule.
use Rattle.std.specs.Prelude.{ℕ, ◌/◌, ◌%◌, cond, List, [], ◌∷◌, None, Ok, Err, Result, ◌==◌}
use Rattle.planes.specs.declared.refusal.Refusal.{Refusal}
use Rattle.planes.specs.Chart.{Chart}
use Rattle.registers.specs.declared.access.Access.{Access}
use Rattle.registers.specs.declared.access.Choice.{Choice}
use Rattle.registers.specs.declared.access.Choice.TheVariants.{Nothing, Control, Source, Mask}
use Rattle.board.specs.Scans.{lit}
use Rattle.rule.specs.declared.Answer.{Answer}
use Rattle.rule.specs.Rule.{State, Asked, fill, lift, run, begin, collect, give_up, scan, peek, poke, init, retrace, interrupt, accessing, ruling, Clear}

-- ---- the status register
-- No stitch depends on it, but D9 lights the screen. A poke sets it, INIT clears it, and nothing else changes it.
abbrev pub status_set : Choice → (place value status : ℕ) → ℕ
status_set Nothing v n status = status
status_set Control v n status = cond (v % 4 == 2) (n / 256) status
status_set Source v n status = status
status_set Mask v n status = status

abbrev pub status_by : Result Access Refusal → (value status : ℕ) → ℕ
status_by (Ok k) n status = status_set k.choice k.place n status
status_by (Err e) n status = status

abbrev pub status_after : State → Asked → (status : ℕ) → ℕ
status_after s (fill a code mask) status = status
status_after s (lift a size) status = status
status_after s (run job p) status = status
status_after s (begin x y) status = status
status_after s collect status = status
status_after s give_up status = status
status_after s (scan course size) status = status
status_after s (peek a) status = status
status_after s (poke a n) status = status_by (accessing s a) n status
status_after s init status = 0
status_after s retrace status = status
status_after s interrupt status = status

-- ---- a list of calls
-- a new board on a plane that shows a chart; its unit is the low three bits of a number
abbrev pub at_first : ℕ → Chart → State
at_first n c = record { chart = c; place = None; unit = n % 8 }

-- a call, and the bytes of its buffer if it has one
pub record Question : Type 0 where
  pub call : Asked
  pub bytes : List ℕ

abbrev pub next : State → Question → State
next s q = (ruling s q.call).after

abbrev pub final : State → List Question → State
final s [] = s
final s (q ∷ more) = final (next s q) more

-- a question as it stands after the call, with the answer
pub record Told : Type 0 where
  pub question : Question
  pub answer : Answer

abbrev pub outcome : State → (status : ℕ) → Question → Told
outcome s status q = record { question = record { call = q.call; bytes = (ruling s q.call).written (lit status) q.bytes }; answer = (ruling s q.call).answer }

-- every call of a list in its turn
abbrev pub outcomes : State → (status : ℕ) → List Question → List Told
outcomes s status [] = []
outcomes s status (q ∷ more) = outcome s status q ∷ outcomes (next s q) (status_after s q.call status) more

-- every call of the list is `Clear` in its turn: no poke that is accepted has its update bit set
abbrev pub AllClear : State → List Question → Type 0
AllClear s [] = Unit {0}
AllClear s (q ∷ more) = Clear s q.call × AllClear (next s q) more
