use Rattle.words.proofs.Weave.{drawn_bit}
use Rattle.words.proofs.draw_in.Goals as goal

pub returns : goal.returns
returns c j h = drawn_bit c.args.v j h
