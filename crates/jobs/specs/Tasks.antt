-- What a field asks for, whether it may, and what it does.
use Rattle.std.specs.Prelude.{ℕ, ◌+◌, cond, List, length, Ok, Err, Result, ◌==◌, slice_index}
use Rattle.planes.specs.Answer.{instead}
use Rattle.planes.specs.declared.refusal.Refusal.{Refusal}
use Rattle.planes.specs.declared.refusal.Refusal.TheVariants.{UnknownTag, WrongLength}
use Rattle.planes.specs.Chart.{Chart}
use Rattle.drawing.specs.Figures.{Area, ruled}
use Rattle.drawing.specs.Given.{area}
use Rattle.drawing.specs.Fills.{filled}
use Rattle.jobs.specs.declared.pen.Origin.{Origin}
use Rattle.jobs.specs.declared.pen.Pen.{Pen}
use Rattle.jobs.specs.declared.task.Task.{Task}
use Rattle.jobs.specs.declared.task.Task.TheVariants.{Code, Mask, Origin as ToOrigin, Fill}
use Rattle.jobs.specs.Format.{number_at}

-- ---- by tag and payload
abbrev pub sized : ℕ → List ℕ → Task → Result Task Refusal
sized n payload k = cond (length payload == n) (Ok k) (Err WrongLength)

-- C, K, O and F
abbrev pub decoded : ℕ → List ℕ → Result Task Refusal
decoded tag d =
    cond (tag == 67) (sized 1 d (Code (slice_index d 0)))
    (cond (tag == 75) (sized 2 d (Mask (number_at d 0)))
    (cond (tag == 79) (sized 4 d (ToOrigin (record { x = record { 0 = number_at d 0 }; y = record { 0 = number_at d 2 } })))
    (cond (tag == 70) (sized 8 d (Fill (record { x = record { 0 = number_at d 0 }; y = record { 0 = number_at d 2 }; w = number_at d 4; h = number_at d 6 })))
    (Err UnknownTag))))

-- ---- the pen
abbrev pub pen_after : Task → Pen → Pen
pen_after (Code n) p = record { brush = record { code = n; mask = p.brush.mask }; origin = p.origin }
pen_after (Mask n) p = record { brush = record { code = p.brush.code; mask = n }; origin = p.origin }
pen_after (ToOrigin o) p = record { brush = p.brush; origin = o }
pen_after (Fill f) p = p

-- the origin is added to every place, without wrapping
abbrev pub shifted : Origin → Area → Area
shifted o a = record { x = a.x + o.x.0; y = a.y + o.y.0; w = a.w; h = a.h }

-- ---- what it draws, and whether it may
abbrev pub task_ruling : (height : ℕ) → Pen → Task → Result (Unit {0}) Refusal
task_ruling height p (Code n) = Ok tt
task_ruling height p (Mask n) = Ok tt
task_ruling height p (ToOrigin o) = Ok tt
task_ruling height p (Fill f) = instead tt (ruled height (shifted p.origin (area f)))

abbrev pub carried : Pen → Task → Chart → Chart
carried p (Code n) c = c
carried p (Mask n) c = c
carried p (ToOrigin o) c = c
carried p (Fill f) c = filled (Ok (shifted p.origin (area f))) p.brush.code p.brush.mask c
