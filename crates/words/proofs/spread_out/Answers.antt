use Rattle.std.proofs.Common.{ℕ, ◌/◌, ◌%◌, ◌&&◌, eqb, ap, ◌∙◌}
use Rattle.words.specs.Bit.{bit}
use Rattle.words.proofs.Weave.{spread_bit}
use Rattle.words.proofs.spread_out.Goals as goal

pub returns : goal.returns
returns c k h = spread_bit c.from-b.result k h ∙ ap (λ (n : ℕ). eqb (k % 2) 0 && bit n (k / 2)) c.from-b.ensures
