use Rattle.std.proofs.Common.{◌≡◌, ℕ, ◌<◌, true, false, refl, ap, ◌∙◌, arith, rules}
use Rattle.std.proofs.lemmas.Bool.{lt-ltb}
use Rattle.planes.specs.Chart.{Chart, within, window}
use Rattle.planes.proofs.Charts.{chart_height, within_high, within_wide}
use Rattle.board.specs.State.{State, state_of}
use Rattle.board.proofs.Begins.{begin_by, refused_begin, accepted_begin}
use Rattle.board.proofs.Board.begin.Goals.{then-at-gt1023-via-then-at-gt1023, then-at-gt1023-via-else-at-gt1023+then-at-courses}
use Rattle.board.proofs.Board.begin.Goals as goal

pub returns-then-at-gt1023 : goal.returns-then-at-gt1023
returns-then-at-gt1023 g c =
    let was : State = state_of g.P.Plane c.args.self.now in
    let x : ℕ = c.args.at.x.0 in
    let y : ℕ = c.args.at.y.0 in
    let rows = chart_height (g.P.Plane.height c.args.self.now.plane).rows (g.P.Plane.stitch c.args.self.now.plane) in
    let off : within was.shown.height x y ≡ false =
    elim c.then-at-gt1023.branch [
      | then-at-gt1023-via-then-at-gt1023 w ↦ within_wide was.shown.height x y (omega (arith, w.if-at-gt1023.true))
      | then-at-gt1023-via-else-at-gt1023+then-at-courses w ↦ within_high was.shown.height x y (omega (arith, rows, w.courses.ensures.told, w.if-at-courses.true))
    ] in
    let e = begin_by x y was false c.in_ok-ready.ensures off in
    let same : state_of g.P.Plane c.then-at-gt1023.self ≡ was = search rules in
    record {
      told = e;
      step = same ∙ refused_begin x y was _ e;
    }

pub returns : goal.returns
returns g c =
    let was : State = state_of g.P.Plane c.args.self.now in
    let x : ℕ = c.args.at.x.0 in
    let y : ℕ = c.args.at.y.0 in
    let rows = chart_height (g.P.Plane.height c.args.self.now.plane).rows (g.P.Plane.stitch c.args.self.now.plane) in
    let low : y < was.shown.height = omega (arith, rows, c.courses.ensures.told) in
    let on : within was.shown.height x y ≡ true = rw (lt-ltb x 1024 (omega arith), lt-ltb y was.shown.height low) refl in
    let e = begin_by x y was true c.in_ok-ready.ensures on in
    let asked = c.courses.ensures.same in
    let same : state_of g.P.Plane c.window-word.new.self ≡ was = c.window-word.ensures.same ∙ (λ i. record { shown = asked i; regs = was.regs; kept = c.courses.ensures.rest i }) in
    record {
      told = e;
      step = accepted_begin x y was _ c.window-word.result same (c.window-word.ensures.told ∙ ap (λ (d : Chart). window d x y) asked) e;
    }
