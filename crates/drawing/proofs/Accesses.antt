-- One access of a drawing, and what it leaves.
-- Assumes nothing.
use Rattle.std.proofs.Common.{◌≡◌, ℕ, ◌<◌, ◌≤◌, Bool, false, cond, is_some, Ok, Err, Option, Result, refl, ap, ◌∙◌, rules, arith}
use Rattle.std.proofs.lemmas.Bool.Decides.{nat_tests}
use Rattle.planes.specs.Answer.{instead}
use Rattle.planes.specs.declared.refusal.Refusal.{Refusal}
use Rattle.planes.specs.declared.refusal.Refusal.TheVariants.{WordUnderWay}
use Rattle.registers.specs.declared.access.Access.{Access}
use Rattle.registers.specs.declared.access.Choice.{Choice}
use Rattle.registers.specs.declared.access.Choice.TheVariants.{Nothing, Control, Source, Mask}
use Rattle.registers.specs.Codes.{decoded, pair_number}
use Rattle.registers.specs.State.{Regs}
use Rattle.registers.specs.Accesses.{admitted, enter, load, pointed, Asks}
use Rattle.board.specs.State.{State, busy}
use Rattle.board.specs.Steps.{after, poking, poked, loading, peeking, peeked, stitches_at}
use Rattle.drawing.specs.Figures.{Area}
use Rattle.drawing.specs.Fills.{fill_ruling}
use Rattle.drawing.specs.Spending.{Spent}
use Rattle.drawing.specs.Setting.{Ready, Inked, Aimed, by_needle}

-- ---- which rectangle
-- a rectangle that is accepted is the one that was given
pub accepted : (s : State) (a b : Area) → Ok b ≡ fill_ruling s a → b ≡ a
accepted s a b e = grind (arith, nat_tests)

-- ---- what stays
pub spent_more : (r q p : State) → Spent r q → Spent q p → Spent r p
spent_more r q p a b = search rules

-- ---- one access
-- a board with no word under way takes an access that it refuses for no other reason
module _ (a : ℕ) (k : Access) (s : State) (is : admitted a s.regs ≡ cond (busy s) (Err WordUnderWay) (Ok k)) (idle : busy s ≡ false) where
  admits : admitted a s.regs ≡ Ok k
  admits = is ∙ ap (λ (b : Bool). cond b (Err WordUnderWay) (Ok k)) idle

  pub ask_told : {V : Type 0} (v : V) → ◌≡◌ {A = Result V Refusal} (instead v (admitted a s.regs)) (Ok v)
  ask_told v = ap (instead v) admits

  pub ask_step : (n : ℕ) → poked a n s ≡ poking n k s
  ask_step n = ap (λ (q : Result Access Refusal). after (poking n) q s) admits

  pub look_step : peeked a s ≡ peeking k s
  look_step = ap (λ (q : Result Access Refusal). after peeking q s) admits

-- such an access is one whose address asks it of the board's unit
module _ (unit a : ℕ) (k : Access) (s : State) (asks : Asks unit k a) (ready : Ready unit s) where
  pub taken_told : {V : Type 0} (v : V) → ◌≡◌ {A = Result V Refusal} (instead v (admitted a s.regs)) (Ok v)
  taken_told v = ask_told a k s (asks s.regs ready.unit_is) ready.idle v

  pub poked_is : (n : ℕ) → poked a n s ≡ poking n k s
  poked_is n = ask_step a k s (asks s.regs ready.unit_is) ready.idle n

  pub peeked_is : peeked a s ≡ peeking k s
  peeked_is = look_step a k s (asks s.regs ready.unit_is) ready.idle

-- a write sets neither the unit nor the word under way
pub enter_unit : (k : Choice) (v n : ℕ) (r : Regs) → ((enter k v n r).unit ≡ r.unit) × ((enter k v n r).ahead ≡ r.ahead)
enter_unit Nothing v n r = (refl, refl)
enter_unit Control v n r = grind (arith, nat_tests)
enter_unit Source v n r = (refl, refl)
enter_unit Mask v n r = (refl, refl)

pub poking_ready : (unit n : ℕ) (k : Access) (s : State) → Ready unit s → Ready unit (poking n k s)
unfolding poking
poking_ready unit n k s ready =
    let (u, w) = enter_unit k.choice k.place n (pointed k s.regs) in
    record { unit_is = u ∙ ready.unit_is; idle = ap (λ (o : Option ℕ). is_some o) w ∙ ready.idle }

-- nor does a read
pub load_unit : (k : Choice) (v x w : ℕ) (r : Regs) → ((load k v x w r).unit ≡ r.unit) × ((load k v x w r).ahead ≡ r.ahead)
load_unit Nothing v x w r = (refl, refl)
load_unit Control v x w r = grind (arith, nat_tests)
load_unit Source v x w r = (refl, refl)
load_unit Mask v x w r = (refl, refl)

pub peeking_ready : (unit : ℕ) (k : Access) (s : State) → Ready unit s → Ready unit (peeking k s)
unfolding loading
peeking_ready unit k s ready =
    let r : Regs = pointed k s.regs in
    let (u, w) = load_unit k.choice k.place (r.cursors (pair_number k.pair)).x.0 (stitches_at (pair_number k.pair) r s.shown) r in
    record { unit_is = u ∙ ready.unit_is; idle = ap (λ (o : Option ℕ). is_some o) w ∙ ready.idle }

-- ---- function and mask
pub inked : (code mask : ℕ) (s : State) → code < 256 → Inked code mask s (poking mask (by_needle 0 Mask) (poking code (by_needle 0 Control) s))
unfolding poking
inked code mask s byte = search (rules, arith, nat_tests)

-- ---- width and needle
-- a width is its own code
width_code : (w : ℕ) → 1 ≤ w → w ≤ 16 → decoded w ≡ w
width_code w some narrow = grind (arith, nat_tests)

pub aimed : (a : Area) (s : State) → 1 ≤ a.w → a.w ≤ 16 → Aimed a s (poking 0 (by_needle a.x Nothing) (poking a.w (by_needle 1 Control) s))
unfolding poking
aimed a s some narrow = search (rules, arith, nat_tests, width_code a.w some narrow)
