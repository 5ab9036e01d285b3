-- How a job is read and carried out, one field after the other. Only private functions cite these.
use Rattle.std.specs.Prelude.{◌≡◌, ℕ, ◌+◌, min, cond, List, [], length, take, drop, Ok, Err, Result, Some, None, Option, slice_index}
use Rattle.planes.specs.declared.refusal.Refusal.{Refusal}
use Rattle.planes.specs.declared.refusal.Refusal.TheVariants.{Truncated}
use Rattle.planes.specs.Chart.{Chart}
use Rattle.drawing.specs.Figures.{Area}
use Rattle.jobs.specs.declared.fault.Fault.{Fault}
use Rattle.jobs.specs.declared.fault.Spot.{Spot}
use Rattle.jobs.specs.declared.pen.Origin.{Origin}
use Rattle.jobs.specs.declared.pen.Pen.{Pen}
use Rattle.jobs.specs.declared.task.Task.{Task}
use Rattle.jobs.specs.Format.{Field, payload_size, cut_off, parsed, headed}
use Rattle.jobs.specs.Faults.{past}
use Rattle.jobs.specs.Tasks.{decoded, carried}
use Rattle.jobs.specs.Runs.{judged_from}

-- a place moved by the origin, as sixteen bits have it: a sum that does not fit is the largest number
abbrev pub clipped : Origin → Area → Area
clipped o a = record { x = min 65535 (a.x + o.x.0); y = min 65535 (a.y + o.y.0); w = a.w; h = a.h }

-- a refused task draws nothing
abbrev pub drawn_by : Result (Unit {0}) Refusal → Pen → Task → Chart → Chart
drawn_by (Ok v) p k c = carried p k c
drawn_by (Err e) p k c = c

-- ---- the first field of what is left
abbrev pub with_size : ℕ → Result Task Refusal → Result (Task × ℕ) Refusal
with_size n (Ok k) = Ok (k, n)
with_size n (Err e) = Err e

-- its task and its size
abbrev pub first_of : List ℕ → Result (Task × ℕ) Refusal
first_of bytes = cond (cut_off bytes) (Err Truncated) (with_size (3 + payload_size bytes) (decoded (slice_index bytes 0) (take (payload_size bytes) (drop 3 bytes))))

-- ---- one step, from a spot and the bytes that are left there to the next
-- a field is taken, with the task that it asks for
pub record Takes (s : Spot) (bytes : List ℕ) (k : Task) (t : Spot) (rest : List ℕ) : Type 0 where
  pub field : Field
  pub reads : parsed 0 bytes ≡ headed field (parsed 0 rest)
  pub asks : decoded field.tag field.payload ≡ Ok k
  pub moves : t ≡ past (3 + length field.payload) s

-- a fault is found: whatever the height and the pen, the job is refused so
abbrev pub Finds : Spot → List ℕ → Fault → Type 0
Finds s bytes f = (height : ℕ) (p : Pen) → judged_from height p s bytes ≡ Err f

-- what the step gives; after a fault nothing is left
abbrev pub Gives : Spot → List ℕ → Option (Result (Task × Spot) Fault) → Spot → List ℕ → Type 0
Gives s bytes None t rest = (bytes ≡ []) × (rest ≡ []) × (t ≡ s)
Gives s bytes (Some (Ok q)) t rest = (q.1 ≡ s) × Takes s bytes q.0 t rest
Gives s bytes (Some (Err f)) t rest = (rest ≡ []) × Finds s bytes f
