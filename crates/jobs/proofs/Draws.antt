-- What a task draws, and on what.
-- Assumes nothing.
use Rattle.std.proofs.Common.{◌≡◌, ℕ, ◌≤◌, Bool, refl, arith}
use Rattle.planes.specs.Chart.{Chart, Height, chart}
use Rattle.planes.proofs.Charts.{chart_height}
use Rattle.planes.proofs.Drawings.{drawn_height}
use Rattle.drawing.specs.Figures.{inside, all_on}
use Rattle.drawing.specs.Given.{area}
use Rattle.jobs.specs.declared.pen.Pen.{Pen}
use Rattle.jobs.specs.declared.task.Task.{Task}
use Rattle.jobs.specs.declared.task.Task.TheVariants.{Code, Mask, Origin, Fill}
use Rattle.jobs.specs.Tasks.{shifted, carried}

-- no chart is higher than 1024 courses
pub chart_low : (h : Height) (on : ℕ → ℕ → Bool) → (chart h.rows on).height ≤ 1024
chart_low h on = omega (arith, chart_height h.rows on, h.low)

-- a task changes no height
pub carried_height : (p : Pen) (k : Task) (c : Chart) → (carried p k c).height ≡ c.height
carried_height p (Code n) c = refl
carried_height p (Mask n) c = refl
carried_height p (Origin o) c = refl
carried_height p (Fill f) c = drawn_height (inside (shifted p.origin (area f))) p.brush.code p.brush.mask all_on c
