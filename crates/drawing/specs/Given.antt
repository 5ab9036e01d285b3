-- The rectangles of the program as plain numbers.
use Rattle.std.specs.Prelude.{Ok, Err, Result}
use Rattle.planes.specs.declared.refusal.Refusal.{Refusal}
use Rattle.drawing.specs.declared.rect.Frame.{Frame}
use Rattle.drawing.specs.declared.rect.Rect.{Rect}
use Rattle.drawing.specs.Figures.{Area}

abbrev pub area : Frame → Area
area f = record { x = f.x.0; y = f.y.0; w = f.w; h = f.h }

abbrev pub covers : Rect → Area
covers r = record { x = r.x.0; y = r.y.0; w = r.w; h = r.h }

abbrev pub seen : Result Rect Refusal → Result Area Refusal
seen (Ok r) = Ok (covers r)
seen (Err e) = Err e
