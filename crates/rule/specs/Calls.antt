-- The calls of the program as the rule has them.
use Rattle.std.specs.Prelude.{[], length, vec_items}
use Rattle.drawing.specs.Given.{area}
use Rattle.rule.specs.declared.Call.{Call}
use Rattle.rule.specs.declared.Call.TheVariants.{Fill, Lift, Run, Begin, Collect, GiveUp, Scan, Peek, Poke, Init, Retrace, Interrupt}
use Rattle.rule.specs.declared.Step.{Step}
use Rattle.rule.specs.Rule.{Asked, fill, lift, run, begin, collect, give_up, scan, peek, poke, init, retrace, interrupt}
use Rattle.rule.specs.Lists.{Question, Told}

-- a call with no buffer
abbrev pub unbuffered : Asked → Question
unbuffered a = record { call = a; bytes = [] }

abbrev pub asked : Call → Question
asked (Fill f b) = unbuffered (fill (area f) b.code b.mask)
asked (Lift f buffer) = record { call = lift (area f) (length (vec_items buffer)); bytes = vec_items buffer }
asked (Run job p) = unbuffered (run (vec_items job) p)
asked (Begin at) = unbuffered (begin at.x.0 at.y.0)
asked Collect = unbuffered collect
asked GiveUp = unbuffered give_up
asked (Scan y buffer) = record { call = scan y.0 (length (vec_items buffer)); bytes = vec_items buffer }
asked (Peek a) = unbuffered (peek a)
asked (Poke a n) = unbuffered (poke a n)
asked Init = unbuffered init
asked Retrace = unbuffered retrace
asked Interrupt = unbuffered interrupt

-- the call of a step, with the bytes of its buffer
abbrev pub question : Step → Question
question s = asked s.call

-- the call alone; of a buffer, its size
abbrev pub request : Step → Asked
request s = (asked s.call).call

abbrev pub told : Step → Told
told s = record { question = asked s.call; answer = s.answer }
