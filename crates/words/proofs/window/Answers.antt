use Rattle.std.proofs.Common.{◌≡◌, ◌+◌, ◌%◌, sym, ap, ◌∙◌, arith, rules}
use Rattle.words.specs.Bit.{across}
use Rattle.words.proofs.Whole.{across_left, bit_across}
use Rattle.words.proofs.window.Goals as goal

pub returns-then-shift-eq0 : goal.returns-then-shift-eq0
returns-then-shift-eq0 c k h =
    let e : c.args.from % 16 + k ≡ k = omega arith in
    sym (ap (across c.args.left c.args.right) e ∙ across_left c.args.left c.args.right k h)

pub returns-else-shift-eq0 : goal.returns-else-shift-eq0
returns-else-shift-eq0 c k h =
    bit_across c.args.left c.args.right (c.args.from % 16) k (search rules) (omega arith) (omega arith) h
