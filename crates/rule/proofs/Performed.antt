-- One call on a board, as the rule has it.
-- Assumes nothing.
use Rattle.std.proofs.Common.{◌≡◌, ℕ, ◌/◌, ◌%◌, Bool, true, false, cond, eqb, ltb, is_some, is_ok, Some, None, Ok, Err, Option, Result, sym, refl, ap, ◌∙◌, subst, ap₂, arith}
use Rattle.std.proofs.lemmas.Bool.{cond-false}
use Rattle.std.proofs.lemmas.Bool.Decides.{nat_tests}
use Rattle.planes.specs.Answer.{instead}
use Rattle.planes.specs.Chart.{Chart}
use Rattle.planes.specs.declared.refusal.Refusal.{Refusal}
use Rattle.planes.specs.declared.refusal.Refusal.TheVariants.{BadAddress, OtherUnit, WordUnderWay}
use Rattle.registers.specs.declared.access.Access.{Access}
use Rattle.registers.specs.declared.access.Choice.{Choice}
use Rattle.registers.specs.declared.access.Choice.TheVariants.{Nothing, Control, Source, Mask}
use Rattle.registers.specs.Codes.{decoded, pair_number}
use Rattle.registers.specs.State.{Regs, with_function, with_width, with_flags}
use Rattle.registers.specs.Accesses.{access_of, unit_of, addressed, unless_busy, admitted, pointed, enter, load}
use Rattle.board.specs.State as board
use Rattle.board.specs.State.{busy}
use Rattle.board.specs.Steps.{after, poking, poked, loading, peeking, peeked, stitches_at}
use Rattle.drawing.specs.Figures.{Area, ruled}
use Rattle.drawing.specs.Lifts.{roomy, lift_ruling}
use Rattle.drawing.specs.Spending.{Left}
use Rattle.drawing.proofs.Accesses.{enter_unit, load_unit}
use Rattle.rule.specs.declared.Answer.{Answer}
use Rattle.rule.specs.Rule.{Place, settled, word_at, lifting, accessing}
use Rattle.rule.specs.Lists.{Question, status_set, status_by}
use Rattle.rule.specs.Following.{rule_of, Keeps, Follows}

-- ---- a word under way, to the board and to the rule
pub busy_is : (p : Option Place) (s : board.State) → Keeps p s → busy s ≡ is_some p
busy_is p s keeps = ap (λ (w : Option ℕ). is_some w) keeps ∙ by p
  where
    by : (q : Option Place) → is_some (word_at s.shown q) ≡ is_some q
    by (Some a) = refl
    by None = refl

-- chart, unit, word under way, status and what else the plane keeps stay
pub record Same (s t : board.State) : Type 0 where
  pub shown : t.shown ≡ s.shown
  pub unit : t.regs.unit ≡ s.regs.unit
  pub ahead : t.regs.ahead ≡ s.regs.ahead
  pub status : t.regs.status ≡ s.regs.status
  pub kept : t.kept ≡ s.kept

module _ (p : Option Place) (s t : board.State) (same : Same s t) where
  pub same_rule : rule_of p t ≡ rule_of p s
  same_rule = λ i. record { chart = same.shown i; place = p; unit = same.unit i }

  pub same_keeps : Keeps p s → Keeps p t
  same_keeps keeps = same.ahead ∙ keeps ∙ ap (λ (c : Chart). word_at c p) (sym same.shown)

pub same_busy : (s t : board.State) → Same s t → busy t ≡ busy s
same_busy s t same = ap (λ (w : Option ℕ). is_some w) same.ahead

pub settled_instead : {A V : Type 0} (v : V) (r : Result A Refusal) → settled (instead v r) ≡ settled r
settled_instead v (Ok a) = refl
settled_instead v (Err e) = refl

-- a call by what it asks
pub follows_as : {q r : Question} {s t : board.State} {answer : Answer} {left : Question} → q ≡ r → Follows q s answer left t → Follows r s answer left t
follows_as {s = s} {t = t} {answer = answer} {left = left} e f = subst (λ (k : Question). Follows k s answer left t) e f

-- ---- a lift
pub left_same : {A E : Type 0} (r : Result A E) (s t : board.State) → t.shown ≡ s.shown → Left r s t → Same s t
left_same (Ok v) s t shown l = record { shown = shown; unit = l.unit; ahead = l.ahead; status = l.status; kept = l.kept }
left_same (Err e) s t shown l = record { shown = shown; unit = λ i. (l i).regs.unit; ahead = λ i. (l i).regs.ahead; status = λ i. (l i).regs.status; kept = λ i. (l i).kept }

pub lift_ruling_is : (p : Option Place) (s : board.State) (a : Area) (n m : ℕ) → Keeps p s → n ≡ m → lift_ruling s a n ≡ lifting (rule_of p s) a m
lift_ruling_is p s a n m keeps size = ap₂ (λ (k : ℕ) (b : Bool). roomy k (cond b (Err WordUnderWay) (ruled s.shown.height a))) size (busy_is p s keeps)

-- ---- an access
pub access_is : (p : Option Place) (a : ℕ) (s : board.State) → Keeps p s → admitted a s.regs ≡ accessing (rule_of p s) a
access_is p a s keeps = ap (λ (b : Bool). unless_busy b (addressed s.regs.unit a)) (busy_is p s keeps)

pub access_answer : {V : Type 0} (p : Option Place) (a : ℕ) (s : board.State) (v : V) → Keeps p s → settled (instead v (admitted a s.regs)) ≡ settled (accessing (rule_of p s) a)
access_answer p a s v keeps = settled_instead v (admitted a s.regs) ∙ ap settled (access_is p a s keeps)

-- what holds of a state and of whatever an access makes of it holds after it, refused or not
accessed : (P : board.State → Type 0) (f : Access → board.State → board.State) (s : board.State) (q : Result Access Refusal) → P s → ((k : Access) → P (f k s)) → P (after f q s)
accessed P f s (Ok k) was once = once k
accessed P f s (Err e) was once = was

pub same_self : (s : board.State) → Same s s
same_self s = record { shown = refl; unit = refl; ahead = refl; status = refl; kept = refl }

load_status : (k : Choice) (v x w : ℕ) (r : Regs) → (load k v x w r).status ≡ r.status
load_status Nothing v x w r = refl
load_status Control v x w r = by (eqb (v % 4) 3)
  where
    by : (b : Bool) → (cond b (with_flags r.status false r) r).status ≡ r.status
    by true = refl
    by false = refl
load_status Source v x w r = refl
load_status Mask v x w r = refl

pub peek_same : (a : ℕ) (s : board.State) → Same s (peeked a s)
unfolding loading
peek_same a s = accessed (λ (t : board.State). Same s t) peeking s (admitted a s.regs) (same_self s) once
  where
    once : (k : Access) → Same s (peeking k s)
    once k =
        let r : Regs = pointed k s.regs in
        let x : ℕ = (r.cursors (pair_number k.pair)).x.0 in
        let w : ℕ = stitches_at (pair_number k.pair) r s.shown in
        let (unit, ahead) = load_unit k.choice k.place x w r in
        record { shown = refl; unit = unit; ahead = ahead; status = load_status k.choice k.place x w r; kept = refl }

enter_status : (k : Choice) (v n : ℕ) (r : Regs) → (enter k v n r).status ≡ status_set k v n r.status
enter_status Nothing v n r = refl
enter_status Control v n r = by (eqb (v % 4) 0) (eqb (v % 4) 1) (eqb (v % 4) 2) (grind (arith, nat_tests)) (grind (arith, nat_tests))
  where
    by : (a b c : Bool) → (a ≡ true → c ≡ false) → (b ≡ true → c ≡ false) →
        (cond a (with_function (n % 256) r) (cond b (with_width (decoded n) r) (cond c (with_flags (n / 256) r.flag r) (with_flags r.status false r)))).status ≡ cond c (n / 256) r.status
    by true b c p q = ap (λ (t : Bool). cond t (n / 256) r.status) (sym (p refl))
    by false true c p q = ap (λ (t : Bool). cond t (n / 256) r.status) (sym (q refl))
    by false false true p q = refl
    by false false false p q = refl
enter_status Source v n r = refl
enter_status Mask v n r = refl

module _ (a n : ℕ) (s : board.State) where
  -- a write, whether it updates or not, leaves the word under way
  pub poke_busy : busy (poked a n s) ≡ busy s
  unfolding poking
  poke_busy =
      accessed (λ (t : board.State). busy t ≡ busy s) (poking n) s (admitted a s.regs) refl
      (λ k. ap (λ (w : Option ℕ). is_some w) (enter_unit k.choice k.place n (pointed k s.regs)).1)

  poke_status_by : (q : Result Access Refusal) → (after (poking n) q s).regs.status ≡ status_by q n s.regs.status
  unfolding poking
  poke_status_by (Ok k) = enter_status k.choice k.place n (pointed k s.regs)
  poke_status_by (Err e) = refl

  pub poke_status : (p : Option Place) → Keeps p s → (poked a n s).regs.status ≡ status_by (accessing (rule_of p s) a) n s.regs.status
  poke_status p keeps = poke_status_by (admitted a s.regs) ∙ ap (λ (q : Result Access Refusal). status_by q n s.regs.status) (access_is p a s keeps)

  poke_unit : ((poked a n s).regs.unit ≡ s.regs.unit) × ((poked a n s).regs.ahead ≡ s.regs.ahead)
  unfolding poking
  poke_unit =
      accessed (λ (t : board.State). (t.regs.unit ≡ s.regs.unit) × (t.regs.ahead ≡ s.regs.ahead)) (poking n) s (admitted a s.regs) (refl, refl)
      (λ k. enter_unit k.choice k.place n (pointed k s.regs))

  pub poke_kept : (poked a n s).kept ≡ s.kept
  unfolding poking
  poke_kept = accessed (λ (t : board.State). t.kept ≡ s.kept) (poking n) s (admitted a s.regs) refl (λ k. refl)

  -- without update, or refused, it draws nothing
  module _ (clear : is_ok (admitted a s.regs) ≡ true → eqb (a / 65536 % 2) 1 ≡ false) where
    by_tests : (odd long ours taken : Bool) →
        (is_ok (unless_busy taken (cond odd (Err BadAddress) (cond long (Err BadAddress) (cond ours (Ok (access_of a)) (Err OtherUnit))))) ≡ true → eqb (a / 65536 % 2) 1 ≡ false) →
        (after (poking n) (unless_busy taken (cond odd (Err BadAddress) (cond long (Err BadAddress) (cond ours (Ok (access_of a)) (Err OtherUnit))))) s).shown ≡ s.shown
    unfolding poking
    by_tests true long ours taken quiet = refl
    by_tests false true ours taken quiet = refl
    by_tests false false false taken quiet = refl
    by_tests false false true true quiet = refl
    by_tests false false true false quiet = cond-false (eqb (a / 65536 % 2) 1) _ s.shown (quiet refl)

    pub poke_shown : (poked a n s).shown ≡ s.shown
    poke_shown = by_tests (eqb (a % 2) 1) (ltb 0xfffff a) (eqb (unit_of a) s.regs.unit) (busy s) clear

    pub poke_rule : (p : Option Place) → rule_of p (poked a n s) ≡ rule_of p s
    poke_rule p = λ i. record { chart = poke_shown i; place = p; unit = poke_unit.0 i }

    pub poke_keeps : (p : Option Place) → Keeps p s → Keeps p (poked a n s)
    poke_keeps p keeps = poke_unit.1 ∙ keeps ∙ ap (λ (c : Chart). word_at c p) (sym poke_shown)
