-- Two answers that are wanted together.
use Rattle.std.specs.Prelude.{Ok, Err, Result}

-- both values, or the first refusal
abbrev pub paired : {A B E : Type 0} → Result A E → Result B E → Result (A × B) E
paired (Ok a) (Ok b) = Ok (a, b)
paired (Ok a) (Err e) = Err e
paired (Err e) r = Err e
