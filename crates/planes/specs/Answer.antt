-- What a plane answers.
use Rattle.std.specs.Prelude.{ℕ, cond, Ok, Err, Result}
use Rattle.planes.specs.declared.refusal.Refusal.{Refusal}
use Rattle.planes.specs.declared.refusal.Refusal.TheVariants.{OffPlane}
use Rattle.planes.specs.Chart.{on_plane}

-- another answer in the place of an accepted one; a refusal stays
abbrev pub instead : {A V E : Type 0} → V → Result A E → Result V E
instead v (Ok a) = Ok v
instead v (Err e) = Err e

-- v where word w of course y lies on a plane of h courses, and the refusal elsewhere
abbrev pub answer : {V : Type 0} → ℕ → ℕ → ℕ → V → Result V Refusal
answer h w y v = cond (on_plane h w y) (Ok v) (Err OffPlane)
