-- What a drawing or a lift leaves of a board beside its chart.
use Rattle.std.specs.Prelude.{◌≡◌, ℕ, ◌<◌, Ok, Err, Result}
use Rattle.board.specs.State.{State}

-- function, width, source, mask and pair 3 may be anything; every other register stays, and what else the plane keeps
pub record Spent (before after : State) : Type 0 where
  pub status : after.regs.status ≡ before.regs.status
  pub flag : after.regs.flag ≡ before.regs.flag
  pub ahead : after.regs.ahead ≡ before.regs.ahead
  pub unit : after.regs.unit ≡ before.regs.unit
  pub pairs : (i : ℕ) → i < 3 → after.regs.cursors i ≡ before.regs.cursors i
  pub kept : after.kept ≡ before.kept

-- a refusal changes nothing; this is the one relation by which each drawing and each job says what it leaves
abbrev pub Left : {A E : Type 0} → Result A E → (before after : State) → Type 0
Left (Ok v) before after = Spent before after
Left (Err e) before after = after ≡ before
