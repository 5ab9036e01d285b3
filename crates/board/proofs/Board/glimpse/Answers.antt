use Rattle.planes.specs.Chart.{Chart}
use Rattle.board.specs.State.{state_of}
use Rattle.board.proofs.Screens.{glimpse_on, glimpse_off}
use Rattle.board.proofs.Board.glimpse.Goals as goal

pub returns-then-light-clause-told : goal.returns-then-light-clause-told
returns-then-light-clause-told g c =
    let was : Chart = (state_of g.P.Plane c.args.self.now).shown in
    glimpse_on c.args.light was c.args.at.word.0 c.args.at.course.0 c.fetch.result c.if-light.true c.fetch.ensures.told

pub returns-else-light-clause-told : goal.returns-else-light-clause-told
returns-else-light-clause-told g c =
    let was : Chart = (state_of g.P.Plane c.args.self.now).shown in
    glimpse_off c.args.light was c.args.at.word.0 c.args.at.course.0 c.if-light.false
