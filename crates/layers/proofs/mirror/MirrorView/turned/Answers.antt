use Rattle.std.proofs.Common.{◌≡◌, ◌-◌, ap, ◌∙◌, arith}
use Rattle.words.specs.Bit.{bit}
use Rattle.words.proofs.Bits.{pack_from_bits}
use Rattle.layers.proofs.mirror.MirrorView.turned.Goals as goal

pub returns : goal.returns
returns c =
    pack_from_bits c.reverse.result (bit c.args.word) c.reverse.type_inv (λ i l.
    let e : 15 - (15 - i) ≡ i = omega arith in
    c.reverse.ensures (15 - i) (omega arith) ∙ ap (bit c.args.word) e)
