-- Whether a word can be begun, and what that leaves.
-- Assumes nothing.
use Rattle.std.proofs.Common.{◌≡◌, ℕ, Bool, true, false, cond, Some, Ok, Err, Result, refl, ap, ◌∙◌}
use Rattle.planes.specs.declared.refusal.Refusal.{Refusal}
use Rattle.planes.specs.declared.refusal.Refusal.TheVariants.{OffChart, WordUnderWay}
use Rattle.planes.specs.Chart.{within, window}
use Rattle.board.specs.State.{State, busy, free}
use Rattle.board.specs.Slips.{begin_ruling, keeping, begun_by, begun}

taken : (b : Bool) → ◌≡◌ {A = Result (Unit {0}) Refusal} (Ok tt) (cond b (Err WordUnderWay) (Ok tt)) → b ≡ false
taken true e = cc
taken false e = refl

-- a board that takes accesses rules by the place alone
pub begin_by : (x y : ℕ) (s : State) (b : Bool) → Ok tt ≡ free s → within s.shown.height x y ≡ b → cond b (Ok tt) (Err OffChart) ≡ begin_ruling x y s
begin_by x y s b ready is = rw (taken (busy s) ready, is) refl

-- what a refusal leaves, and what an acceptance does
pub refused_begin : (x y : ℕ) (s : State) (e : Refusal) → Err e ≡ begin_ruling x y s → s ≡ begun x y s
refused_begin x y s e is = ap (λ (q : Result (Unit {0}) Refusal). begun_by q x y s) is

pub accepted_begin : (x y : ℕ) (s t : State) (w : ℕ) → t ≡ s → w ≡ window s.shown x y → Ok tt ≡ begin_ruling x y s → keeping (Some w) t ≡ begun x y s
accepted_begin x y s t w same told is = (λ i. keeping (Some (told i)) (same i)) ∙ ap (λ (q : Result (Unit {0}) Refusal). begun_by q x y s) is
