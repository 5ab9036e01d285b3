-- A new board on one course takes a word at its corner.
-- Assumes nothing.
use Rattle.std.proofs.Common.{◌≡◌, ℕ, ◌/◌, min, cond, List, length, Ok, Err, ap, ◌∙◌}
use Rattle.planes.specs.declared.refusal.Refusal.TheVariants.{OffChart}
use Rattle.planes.specs.Chart.{chart, within}
use Rattle.planes.specs.FlatLayout.{flat_height, flat_on}
use Rattle.planes.proofs.Charts.{chart_height}
use Rattle.board.specs.State.{State, fresh_board}
use Rattle.board.specs.Slips.{begin_ruling}

pub corner_taken : (bytes : List ℕ) (s : State) (kept : List (List ℕ)) → s ≡ fresh_board 0 (chart (flat_height bytes) (flat_on bytes)) kept → length bytes ≡ 128 → begin_ruling 0 0 s ≡ Ok tt
corner_taken bytes s kept made long =
    ap (begin_ruling 0 0) made
    ∙ ap (λ (h : ℕ). cond (within h 0 0) (Ok tt) (Err OffChart)) (chart_height (flat_height bytes) (flat_on bytes) ∙ ap (λ (n : ℕ). min 1024 (n / 128)) long)
