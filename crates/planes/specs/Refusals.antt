-- The number of each refusal.
use Rattle.std.specs.Prelude.{ℕ}
use Rattle.planes.specs.declared.refusal.Refusal.{Refusal}
use Rattle.planes.specs.declared.refusal.Refusal.TheVariants.{OffChart, Empty, TooLarge, ShortBuffer, BadAddress, OtherUnit, WordUnderWay, NoWordUnderWay, OffPlane, JobTooLong, Truncated, UnknownTag, WrongLength}

abbrev pub number : Refusal → ℕ
number OffChart = 1
number Empty = 2
number TooLarge = 3
number ShortBuffer = 4
number BadAddress = 5
number OtherUnit = 6
number WordUnderWay = 7
number NoWordUnderWay = 8
number OffPlane = 9
number JobTooLong = 10
number Truncated = 11
number UnknownTag = 12
number WrongLength = 13
