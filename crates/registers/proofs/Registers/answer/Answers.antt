use Rattle.std.proofs.Common.{ltb, ap, ◌∙◌, rules}
use Rattle.registers.specs.State.{plain}
use Rattle.registers.proofs.Words.{answer_is}
use Rattle.registers.proofs.Registers.answer.Goals as goal

pub returns : goal.returns
returns c =
    answer_is (plain c.args.self.now) c.ones.result (search rules) c.ones.type_inv (λ k h. c.ones.ensures k h ∙ ap (ltb k) c.stitches.ensures)
