-- What lies off the plane: nothing is on there, and nothing is drawn.
-- Assumes nothing.
use Rattle.std.proofs.Common.{◌≡◌, ℕ, ◌*◌, Bool, Ok, Err, Result, ◌∙◌}
use Rattle.std.specs.Result.{result_unwrap_or}
use Rattle.words.proofs.Bits.{bit_none}
use Rattle.planes.specs.declared.refusal.Refusal.{Refusal}
use Rattle.planes.specs.Answer.{answer}
use Rattle.planes.specs.Chart.{chart, window}
use Rattle.planes.proofs.Charts.{refused_window, read_window, off_window, window_high, on_wide}
use Rattle.planes.proofs.Drawings.{refused_drawn, off_drawn, high_drawn, drawn_none}

-- nothing on stands for a refusal
pub read_or_none : (h : ℕ) (f : ℕ → ℕ → Bool) (w y n : ℕ) (r : Result ℕ Refusal) → n ≡ result_unwrap_or r 0 → r ≡ answer h w y (window (chart h f) (16 * w) y) → n ≡ window (chart h f) (16 * w) y
read_or_none h f w y n (Ok v) is told = is ∙ read_window h f w y v told
read_or_none h f w y n (Err x) is told = is ∙ refused_window h f w y x told

pub ruleset nothing_on = (read_or_none, off_window, window_high, on_wide)

pub ruleset nothing_drawn = (refused_drawn, off_drawn, high_drawn, drawn_none, on_wide, bit_none)
