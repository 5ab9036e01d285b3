use Rattle.std.proofs.Common.{◌≡◌, ℕ, ap, ◌∙◌}
use Rattle.planes.specs.Chart.{window}
use Rattle.registers.specs.declared.access.Access.{Access}
use Rattle.registers.specs.declared.cursor.Cursor.{Cursor}
use Rattle.registers.specs.Codes.{pair_number}
use Rattle.registers.specs.State.{Regs}
use Rattle.registers.specs.Accesses.{loaded}
use Rattle.board.specs.State.{State, state_of}
use Rattle.board.specs.Steps.{stitches_at, loading}
use Rattle.board.proofs.Board.load.Goals as goal

load_word : (k : Access) (s t : State) (r : Regs) (w : ℕ) → t ≡ s → w ≡ stitches_at (pair_number k.pair) s.regs s.shown → r ≡ loaded k w t.regs →
    ◌≡◌ {A = State} (record { shown = t.shown; regs = r; kept = t.kept }) (loading k s)
unfolding loading
load_word k s t r w same told done =
    (λ i. record { shown = (same i).shown; regs = done i; kept = (same i).kept })
    ∙ (λ i. record { shown = s.shown; regs = loaded k (told i) (same i).regs; kept = s.kept })

pub returns-in-Source : goal.returns-in-Source
returns-in-Source g c =
    let was : State = state_of g.P.Plane c.args.self.now in
    let word = c.window-word.ensures.told ∙ ap (λ (p : Cursor). window was.shown p.x.0 p.y.0) c.cursor-at.ensures in
    record { step = load_word c.args.access was (state_of g.P.Plane c.window-word.new.self) _ _ c.window-word.ensures.same word c.load-in-Source.ensures }
