use Rattle.std.proofs.Common.{◌≡◌, ◌++◌, string_bytes}
use Rattle.planes.specs.Chart.{chart_of}
use Rattle.charting.specs.Picture.{picture}
use Rattle.charting.proofs.push_picture.Given as goal

abbrev pub invariant-loop-y : goal.invariant-loop-y
invariant-loop-y g l =
    (string_bytes l.text ≡ string_bytes l.initial.text ++ picture l.y (chart_of g.P.Plane.height g.P.Plane.stitch l.initial.plane))
    × (chart_of g.P.Plane.height g.P.Plane.stitch l.plane ≡ chart_of g.P.Plane.height g.P.Plane.stitch l.initial.plane)
