use Rattle.words.proofs.Weave.{woven}
use Rattle.words.proofs.interleave.Goals as goal

pub returns : goal.returns
returns c i h =
    woven c.spread_out-first.result c.spread_out-second.result c.args.even c.args.odd c.spread_out-first.ensures c.spread_out-second.ensures i h
