-- Where a job went wrong.
use Rattle.std.specs.Prelude.{ℕ, ◌+◌, List, ◌++◌, Ok, Err, codes, decimal, Result}
use Rattle.planes.specs.Refusals.{number}
use Rattle.planes.specs.declared.refusal.Refusal.{Refusal}
use Rattle.jobs.specs.declared.fault.Fault.{Fault}
use Rattle.jobs.specs.declared.fault.Spot.{Spot}

abbrev pub start : Spot
start = record { place = 0; before = 0 }

-- the spot of the next field, after one of so many bytes
abbrev pub past : ℕ → Spot → Spot
past n s = record { place = s.place + n; before = s.before + 1 }

abbrev pub fault : Refusal → Spot → Fault
fault e s = record { refusal = e; spot = s }

abbrev pub blamed : {V : Type 0} → Spot → Result V Refusal → Result V Fault
blamed s (Ok v) = Ok v
blamed s (Err e) = Err (fault e s)

-- how a fault is told: the refusal by its number, and the place
abbrev pub fault_text : Fault → List ℕ
fault_text f = codes "fault " ++ (decimal (number f.refusal) ++ (codes " at " ++ decimal f.spot.place))
