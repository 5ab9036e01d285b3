use Rattle.std.proofs.Common.{ℕ, sym, ap, ◌∙◌}
use Rattle.registers.specs.declared.access.Choice.{Choice}
use Rattle.registers.specs.declared.cursor.Cursor.{Cursor}
use Rattle.registers.specs.State.{Regs, plain, with_mask}
use Rattle.registers.specs.Accesses.{aligned, load}
use Rattle.registers.specs.Codes.{pair_number}
use Rattle.registers.proofs.Words.{turn_is}
use Rattle.registers.proofs.Registers.load.Goals as goal

pub returns-in-Mask : goal.returns-in-Mask
returns-in-Mask c =
    let was : Regs = plain c.args.self.now in
    let x : ℕ = c.cursor.result.x.0 in
    let is = turn_is c.args.word x c.window-self.result c.window-self.type_inv c.window-self.ensures in
    ap (λ (n : ℕ). with_mask n was) is
    ∙ ap (λ (p : Cursor). with_mask (aligned p.x.0 c.args.word) was) c.cursor.ensures
    ∙ ap (λ (k : Choice). load k c.args.access.place (was.cursors (pair_number c.args.access.pair)).x.0 c.args.word was) (sym c.in-Mask.is)
