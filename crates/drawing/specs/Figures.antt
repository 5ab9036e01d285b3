-- Rectangles, and which of them lie on a chart.
use Rattle.std.specs.Prelude.{ℕ, ◌+◌, Bool, true, cond, ◌&&◌, ◌||◌, Ok, Err, Result, ◌==◌, nat_le, nat_lt}
use Rattle.planes.specs.declared.refusal.Refusal.{Refusal}
use Rattle.planes.specs.declared.refusal.Refusal.TheVariants.{OffChart, Empty, TooLarge}

-- w needles from x on, of h courses from y on
pub record Area : Type 0 where
  pub x : ℕ
  pub y : ℕ
  pub w : ℕ
  pub h : ℕ

abbrev pub inside : Area → ℕ → ℕ → Bool
inside a u v = (nat_le a.x u && nat_lt u (a.x + a.w)) && (nat_le a.y v && nat_lt v (a.y + a.h))

-- the source of a fill
abbrev pub all_on : ℕ → ℕ → Bool
all_on u v = true

-- a place off a chart of so many courses; a side of length 0; a rectangle that passes the edge
abbrev pub off_chart : (height x y : ℕ) → Bool
off_chart height x y = nat_lt 1023 x || nat_le height y

abbrev pub empty : Area → Bool
empty a = a.w == 0 || a.h == 0

abbrev pub too_large : (height : ℕ) → Area → Bool
too_large height a = nat_lt 1024 (a.x + a.w) || nat_lt height (a.y + a.h)

-- the rectangle where it lies on the chart, or the first refusal that fits
abbrev pub ruled : (height : ℕ) → Area → Result Area Refusal
ruled height a =
    cond (off_chart height a.x a.y) (Err OffChart)
    (cond (empty a) (Err Empty)
    (cond (too_large height a) (Err TooLarge) (Ok a)))
