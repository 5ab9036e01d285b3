-- What a layer shows at needle x of course y, where f says of each needle of each course below whether it is on.
use Rattle.std.specs.Prelude.{◌≡◌, ℕ, ◌+◌, ◌-◌, ◌*◌, ◌%◌, ◌^◌, ◌<◌, Bool, true, false, cond, not, Ok, Err, Result, nat_lt}
use Rattle.words.specs.Bit.{bit, pack}
use Rattle.planes.specs.declared.numbers.Stretch.{Stretch}
use Rattle.planes.specs.declared.refusal.Refusal.{Refusal}
use Rattle.planes.specs.declared.refusal.Refusal.TheVariants.{OffPlane}
use Rattle.planes.specs.Chart.{chart, window, on_plane, written}

-- left for right: needle 1023 - x below
abbrev pub mirrored : (ℕ → ℕ → Bool) → ℕ → ℕ → Bool
mirrored f x y = f (1023 - x) y

-- `by` courses on, and from the last of h courses to the first again
abbrev pub rolled : (by h : ℕ) → (ℕ → ℕ → Bool) → ℕ → ℕ → Bool
rolled by h f x y = f x ((y + by) % h)

-- on for off, and off for on
abbrev pub negated : (ℕ → ℕ → Bool) → ℕ → ℕ → Bool
negated f x y = not (f x y)

-- ---- where the word lies below that shows as word w of course y, on a plane of h courses

abbrev pub place : (w y : ℕ) → Stretch
place w y = record { word = record { 0 = w }; course = record { 0 = y } }

-- a word that is none of the 64 is refused
abbrev pub mirror_below : (h w y : ℕ) → Result Stretch Refusal
mirror_below h w y = cond (nat_lt w 64) (Ok (place (63 - w) y)) (Err OffPlane)

-- a course that is none of the h is refused
abbrev pub roll_below : (by h w y : ℕ) → Result Stretch Refusal
roll_below by h w y = cond (nat_lt y h) (Ok (place w ((y + by) % h))) (Err OffPlane)

abbrev pub negative_below : (h w y : ℕ) → Result Stretch Refusal
negative_below h w y = Ok (place w y)

-- ---- how a word shows

-- the sixteen bits in the other order
abbrev pub reversed : ℕ → ℕ
reversed n = pack (bit n)

-- each of the sixteen bits the other way
abbrev pub flipped : ℕ → ℕ
flipped n = (2 ^ 16 - 1) - n

-- ---- what any way to show a plane owes

-- Of a plane of h courses that is on where f says, `shows h f` is shown; `below h w y` is where word w of course y lies; and `turned` turns a word below into the word that shows, and back.
pub record ViewLaws (shows : ℕ → (ℕ → ℕ → Bool) → ℕ → ℕ → Bool) (below : (h w y : ℕ) → Result Stretch Refusal) (turned : ℕ → ℕ) : Type 0 where
  -- where planes show one chart, so do the layers on them
  pub same : (h k : ℕ) (f g : ℕ → ℕ → Bool) → chart h f ≡ chart k g → chart h (shows h f) ≡ chart k (shows k g)
  -- a word that is refused is off the plane
  pub refused : (h w y : ℕ) (e : Refusal) → below h w y ≡ Err e → (e ≡ OffPlane) × (on_plane h w y ≡ false)
  -- any other word lies on the plane below exactly if it is on the plane
  pub placed : (h w y : ℕ) (p : Stretch) → below h w y ≡ Ok p → on_plane h p.word.0 p.course.0 ≡ on_plane h w y
  -- a word on the plane shows the word below, turned
  pub read : (h w y : ℕ) (f : ℕ → ℕ → Bool) (p : Stretch) → below h w y ≡ Ok p → on_plane h w y ≡ true → turned (window (chart h f) (16 * p.word.0) p.course.0) ≡ window (chart h (shows h f)) (16 * w) y
  -- and to write a word below, turned, is to write the word
  pub put : (h k w y n : ℕ) (f g : ℕ → ℕ → Bool) (p : Stretch) → below h w y ≡ Ok p → n < 2 ^ 16 → chart k g ≡ written p.word.0 p.course.0 (turned n) (chart h f) → chart k (shows k g) ≡ written w y n (chart h (shows h f))
