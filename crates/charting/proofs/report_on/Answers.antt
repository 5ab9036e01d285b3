use Rattle.std.proofs.Common.{◌≡◌, ℕ, List, ◌++◌, ap, ◌∙◌, ap₂, MutBor}
use Rattle.planes.specs.Chart.{Chart, chart_of}
use Rattle.jobs.specs.Runs.{job_answer, run_answer, run_chart}
use Rattle.charting.specs.Picture.{line, picture, pen_at_start}
use Rattle.charting.proofs.report_on.Goals as goal

pub returns : goal.returns
returns g c =
    let was : Chart = chart_of g.P.Plane.height g.P.Plane.stitch c.args.plane.now in
    let job : List ℕ = c.args.job.now in
    let new = c.new-board.ensures.made in
    let answer : c.run-answer.result ≡ job_answer was.height pen_at_start job = c.run-answer.ensures.told ∙ (λ i. run_answer (new i) pen_at_start job) in
    let shown = c.run-answer.ensures.shown ∙ (λ i. run_chart (new i) pen_at_start job) in
    c.in_ok-push_picture.ensures
    ∙ ap₂ ◌++◌ (c.in_ok-text.ensures ∙ ap line answer)
    (ap (λ (p : MutBor g.row.P.Denot). picture 8 (chart_of g.P.Plane.height g.P.Plane.stitch p.now)) c.into_plane-lent.ensures ∙ ap (picture 8) shown)
