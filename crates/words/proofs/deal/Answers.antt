use Rattle.words.proofs.Weave.{dealt}
use Rattle.words.proofs.deal.Goals as goal

pub returns : goal.returns
returns c i h =
    dealt c.args.word c.draw_in-even.result c.draw_in-odd.result c.draw_in-even.ensures c.draw_in-odd.ensures i h
