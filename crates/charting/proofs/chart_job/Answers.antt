use Rattle.std.proofs.Common.{◌≡◌, ℕ, List, string_bytes, ap, ◌∙◌}
use Rattle.std.proofs.lemmas.Result.{IfOk-weaker}
use Rattle.planes.specs.Chart.{Chart}
use Rattle.charting.specs.Picture.{report, charted}
use Rattle.charting.proofs.Rows.{blank_beds}
use Rattle.charting.proofs.chart_job.Goals as goal

pub returns : goal.returns
returns c =
    let job : List ℕ = c.args.job.now in
    let front = c.new-plane.ensures.front.0 ∙ c.as_mut_slice.ensures.value ∙ c.in_ok-front.ensures.items_if_clones_equal (λ y e. e) in
    let back = c.new-plane.ensures.back.0 ∙ c.as_mut_slice-2.ensures.value ∙ c.in_ok-back.ensures.items_if_clones_equal (λ y e. e) in
    IfOk-weaker c.report_on.result _ (λ s. string_bytes s ≡ charted job) (λ s e. e ∙ ap (λ (q : Chart). report q job) (blank_beds _ _ front back)) c.report_on.ensures
