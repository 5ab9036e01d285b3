use Rattle.std.proofs.Common.{◌≡◌, ℕ, true, List, length, is_ok, vec_items, Result, sym, refl, ap, ◌∙◌, subst, ap₂, arith}
use Rattle.std.proofs.lemmas.List.{with_items_is}
use Rattle.planes.specs.declared.refusal.Refusal.{Refusal}
use Rattle.registers.specs.Accesses.{admitted, answered}
use Rattle.board.specs.State as board
use Rattle.board.specs.State.{state_of}
use Rattle.board.specs.Scans.{lit, scan_ruling, scanned}
use Rattle.drawing.specs.Figures.{Area}
use Rattle.drawing.specs.Given.{area}
use Rattle.drawing.specs.Lifts.{lift_ruling, lifted}
use Rattle.rule.specs.Rule.{settled}
use Rattle.rule.specs.Calls.{asked}
use Rattle.rule.specs.Following.{rule_of, Keeps}
use Rattle.rule.proofs.Performed.{Same, same_rule, same_keeps, same_busy, same_self, settled_instead, follows_as, left_same, lift_ruling_is, access_is, access_answer, peek_same, poke_busy, poke_kept, poke_status, poke_rule, poke_keeps}
use Rattle.rule.proofs.player.Player.perform.Goals as goal

pub returns-in-Lift-clause-rule : goal.returns-in-Lift-clause-rule
returns-in-Lift-clause-rule g c =
    let was : board.State = state_of g.P.Plane c.args.self.now.board in
    let end : board.State = state_of g.P.Plane c.lift.new.board in
    let b = c.in-Lift.buffer in
    let a : Area = area c.in-Lift.frame in
    let e = c.lift.ensures in
    let ws : List ℕ = c.lift.new.buffer in
    let value = c.deref_mut.ensures.value in
    let size = ap length value in
    let long : length ws ≡ b.len = omega (arith, c.lift.auto.buffer, size, b.ok.0) in
    let refilled = with_items_is b ws long in
    let same = left_same c.lift.result was end e.shown e.left in
    follows_as (ap asked (sym c.in-Lift.is)) (λ p keeps clear.
    let ruling = lift_ruling_is p was a (length c.deref_mut.result.now) (length (vec_items b)) keeps size in
    record {
      answer_is = c.into-in-Lift.ensures ∙ ap settled e.told ∙ settled_instead tt (lift_ruling was a (length c.deref_mut.result.now)) ∙ ap settled ruling;
      bytes_are = refilled ∙ e.bytes ∙ ap₂ (λ (r : Result Area Refusal) (bs : List ℕ). lifted r was.shown bs) ruling value;
      status_is = same.status;
      after_is = same_rule p was end same;
      keeps = same_keeps p was end same keeps;
    })

pub returns-in-Scan-clause-rule : goal.returns-in-Scan-clause-rule
returns-in-Scan-clause-rule g c =
    let was : board.State = state_of g.P.Plane c.args.self.now.board in
    let end : board.State = state_of g.P.Plane c.scan.new.self in
    let b = c.in-Scan.buffer in
    let y : ℕ = c.in-Scan.course.0 in
    let e = c.scan.ensures in
    let ws : List ℕ = c.scan.new.buffer in
    let value = c.deref_mut-in-Scan.ensures.value in
    let size = ap length value in
    let long : length ws ≡ b.len = omega (arith, c.scan.auto.buffer, size, b.ok.0) in
    let refilled = with_items_is b ws long in
    let same : Same was end = subst (λ (t : board.State). Same was t) (sym e.same) (same_self was) in
    follows_as (ap asked (sym c.in-Scan.is)) (λ p keeps clear. record {
      answer_is = c.into-in-Scan.ensures ∙ ap settled (e.told ∙ ap (scan_ruling y) size);
      bytes_are = refilled ∙ e.bytes ∙ ap₂ (λ (n : ℕ) (bs : List ℕ). scanned (scan_ruling y n) (lit was.regs.status) was.shown y bs) size value;
      status_is = same.status;
      after_is = same_rule p was end same;
      keeps = same_keeps p was end same keeps;
    })

pub invariant_of-self-in-Peek : goal.invariant_of-self-in-Peek
invariant_of-self-in-Peek g c =
    let was : board.State = state_of g.P.Plane c.args.self.now.board in
    record { tied = c.args.self.now.tied ∙ sym (ap board.busy c.peek.ensures.step ∙ same_busy was _ (peek_same c.in-Peek.address was)) }

pub returns-in-Peek-clause-rule : goal.returns-in-Peek-clause-rule
returns-in-Peek-clause-rule g c =
    let was : board.State = state_of g.P.Plane c.args.self.now.board in
    let end : board.State = state_of g.P.Plane c.peek.new.self in
    let a : ℕ = c.in-Peek.address in
    let e = c.peek.ensures in
    let same : Same was end = subst (λ (t : board.State). Same was t) (sym e.step) (peek_same a was) in
    follows_as (ap asked (sym c.in-Peek.is)) (λ p keeps clear. record {
      answer_is = c.into-in-Peek.ensures ∙ ap settled e.told ∙ access_answer p a was (answered was.regs) keeps;
      bytes_are = refl;
      status_is = same.status;
      after_is = same_rule p was end same;
      keeps = same_keeps p was end same keeps;
    })

pub invariant_of-self-in-Poke : goal.invariant_of-self-in-Poke
invariant_of-self-in-Poke g c =
    let was : board.State = state_of g.P.Plane c.args.self.now.board in
    record { tied = c.args.self.now.tied ∙ sym (ap board.busy c.poke.ensures.step ∙ poke_busy c.in-Poke.address c.in-Poke.value was) }

pub returns-in-Poke-clause-rule : goal.returns-in-Poke-clause-rule
returns-in-Poke-clause-rule g c =
    let was : board.State = state_of g.P.Plane c.args.self.now.board in
    let a : ℕ = c.in-Poke.address in
    let n : ℕ = c.in-Poke.value in
    let e = c.poke.ensures in
    follows_as (ap asked (sym c.in-Poke.is)) (λ p keeps clear.
    let quiet = λ (ok : is_ok (admitted a was.regs) ≡ true). clear (ap is_ok (sym (access_is p a was keeps)) ∙ ok) in
    record {
      answer_is = c.into-in-Poke.ensures ∙ ap settled e.told ∙ access_answer p a was tt keeps;
      bytes_are = refl;
      status_is = ap (λ (t : board.State). t.regs.status) e.step ∙ poke_status a n was p keeps;
      after_is = ap (rule_of p) e.step ∙ poke_rule a n was quiet p;
      keeps = subst (λ (t : board.State). Keeps p t) (sym e.step) (poke_keeps a n was quiet p keeps);
    })

pub returns-in-Peek-clause-kept : goal.returns-in-Peek-clause-kept
returns-in-Peek-clause-kept g c =
    let was : board.State = state_of g.P.Plane c.args.self.now.board in
    ap (λ (t : board.State). t.kept) c.peek.ensures.step ∙ (peek_same c.in-Peek.address was).kept

pub returns-in-Poke-clause-kept : goal.returns-in-Poke-clause-kept
returns-in-Poke-clause-kept g c =
    let was : board.State = state_of g.P.Plane c.args.self.now.board in
    ap (λ (t : board.State). t.kept) c.poke.ensures.step ∙ poke_kept c.in-Poke.address c.in-Poke.value was
