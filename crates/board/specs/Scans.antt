-- A course as the screen has it.
use Rattle.std.specs.Prelude.{◌≡◌, ℕ, ◌/◌, ◌%◌, ◌<◌, Bool, cond, ◌&&◌, List, Ok, Err, Result, ◌==◌, nat_lt}
use Rattle.words.specs.Bytes.{overlaid, byte_of}
use Rattle.planes.specs.declared.refusal.Refusal.{Refusal}
use Rattle.planes.specs.declared.refusal.Refusal.TheVariants.{OffChart, ShortBuffer}
use Rattle.planes.specs.Chart.{Chart}
use Rattle.planes.specs.FlatLayout.{flat_on}

-- D9, which is bit 1 of the status, lights the screen
abbrev pub lit : (status : ℕ) → Bool
lit status = status / 2 % 2 == 1

-- the screen has 800 courses, and a course takes 128 bytes
abbrev pub scan_ruling : (course size : ℕ) → Result (Unit {0}) Refusal
scan_ruling course size = cond (nat_lt 799 course) (Err OffChart) (cond (nat_lt size 128) (Err ShortBuffer) (Ok tt))

-- course y of a chart in the first 128 bytes of a buffer, all of it off unless `light`
abbrev pub painted : (light : Bool) → Chart → (y : ℕ) → List ℕ → List ℕ
painted light c y bytes = overlaid (λ i. nat_lt i 128) (byte_of (λ x. light && c.on x y)) bytes

-- a refused scan writes nothing
abbrev pub scanned : Result (Unit {0}) Refusal → (light : Bool) → Chart → (y : ℕ) → List ℕ → List ℕ
scanned (Ok v) light c y bytes = painted light c y bytes
scanned (Err e) light c y bytes = bytes

-- the law of `painted`: the buffer shows the course as course 0 of Flat's layout
abbrev pub Displays : (light : Bool) → Chart → (y : ℕ) → List ℕ → Type 0
Displays light c y bytes = (x : ℕ) → x < 1024 → flat_on bytes x 0 ≡ (light && c.on x y)
