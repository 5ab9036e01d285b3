use Rattle.std.proofs.Common.{◌≡◌, ◌++◌, string_bytes}
use Rattle.charting.specs.Rows.{marks}
use Rattle.charting.proofs.push_row.Given as goal

abbrev pub invariant-loop-i : goal.invariant-loop-i
invariant-loop-i l = string_bytes l.text ≡ string_bytes l.initial.text ++ marks l.i l.word
