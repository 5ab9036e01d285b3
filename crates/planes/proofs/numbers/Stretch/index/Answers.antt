use Rattle.std.proofs.Common.{rules}
use Rattle.planes.specs.Chart.{on_plane}
use Rattle.planes.proofs.numbers.Stretch.index.Goals as goal

pub returns-then-self-ge64 : goal.returns-then-self-ge64
unfolding on_plane
returns-then-self-ge64 c = search rules

pub returns : goal.returns
unfolding on_plane
returns c = search rules
