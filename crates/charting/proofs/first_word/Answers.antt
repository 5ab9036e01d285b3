use Rattle.board.proofs.Edges.{read_or_none}
use Rattle.charting.proofs.first_word.Goals as goal

pub returns-clause-told : goal.returns-clause-told
returns-clause-told g c =
    read_or_none (g.P.Plane.height c.args.plane.now).rows (g.P.Plane.stitch c.args.plane.now) 0 c.args.course.0 c.unwrap_or.result c.read.result c.unwrap_or.ensures c.read.ensures.told
