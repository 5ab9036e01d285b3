use Rattle.std.proofs.Common.{sym, ◌∙◌}
use Rattle.std.proofs.lemmas.Bool.{eq-eqb, ne_eqb}
use Rattle.words.proofs.Bits.{bit_ones, bit_none}
use Rattle.words.proofs.Whole.{bit_test}
use Rattle.words.proofs.spread.Goals as goal

pub returns-then-code-i-eq1 : goal.returns-then-code-i-eq1
returns-then-code-i-eq1 c j h = bit_ones 16 j h ∙ sym (bit_test c.args.code c.args.i ∙ eq-eqb _ 1 c.if-code-i-eq1.true)

pub returns-else-code-i-eq1 : goal.returns-else-code-i-eq1
returns-else-code-i-eq1 c j h = bit_none j ∙ sym (bit_test c.args.code c.args.i ∙ ne_eqb _ 1 c.if-code-i-eq1.false)
