use Rattle.std.proofs.Common.{ℕ, ◌%◌, ◌^◌, ◌<◌, ap, ◌∙◌, arith, rules}
use Rattle.words.specs.Bit.{placed}
use Rattle.words.proofs.Whole.{laid}
use Rattle.words.proofs.lay.Goals as goal

pub returns : goal.returns
returns c i h =
    let s : ℕ = c.args.from % 16 in
    let small : c.args.value < 2 ^ 16 = search rules in
    laid c.from.result s i (omega arith) (omega arith) h ∙ ap (λ (n : ℕ). placed n s i) c.from.ensures
