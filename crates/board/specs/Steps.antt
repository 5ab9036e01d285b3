-- What a write and a read make of a board.
use Rattle.std.specs.Prelude.{ℕ, cond, Ok, Err, Result}
use Rattle.planes.specs.declared.refusal.Refusal.{Refusal}
use Rattle.planes.specs.Chart.{Chart, window}
use Rattle.planes.specs.Drawn.{drawn, reach, laid, picked, masked}
use Rattle.registers.specs.declared.access.Access.{Access}
use Rattle.registers.specs.Codes.{pair_number}
use Rattle.registers.specs.State.{Regs}
use Rattle.registers.specs.Accesses.{admitted, pointed, entered, loaded}
use Rattle.board.specs.State.{State}

-- what an access makes of a state; a refusal leaves the state as it was
abbrev pub after : (Access → State → State) → Result Access Refusal → State → State
after f (Ok k) s = f k s
after f (Err e) s = s

-- ---- a write
-- the stitches that the registers update at a pair: `width` of them from its place on, with the source's bits from the leftmost on
unfoldable pub updated : ℕ → Regs → Chart → Chart
updated pair r c = drawn (reach (r.cursors pair).x.0 (r.cursors pair).y.0 r.width) r.function r.mask (laid (r.cursors pair).x.0 r.source) c

-- they are updated, and nothing else; only a private function cites this
abbrev pub updating : (pair : ℕ) → State → State
updating pair s = record s { shown = updated pair s.regs s.shown }

-- those of one word, where `here` has ones; only a private function cites this
abbrev pub touched : (w z here source : ℕ) → State → State
touched w z here source s = record s { shown = drawn (picked w z here) s.regs.function s.regs.mask (λ u v. masked source u) s.shown }

-- the coordinate, then the register, then the stitches
unfoldable pub poking : ℕ → Access → State → State
poking n k s = record s {
  shown = cond k.update (updated (pair_number k.pair) (entered k n (pointed k s.regs)) s.shown) s.shown;
  regs = entered k n (pointed k s.regs);
}

abbrev pub poked : ℕ → ℕ → State → State
poked a n s = after (poking n) (admitted a s.regs) s

-- ---- a read
-- the sixteen stitches from a pair's place on
abbrev pub stitches_at : ℕ → Regs → Chart → ℕ
stitches_at pair r c = window c (r.cursors pair).x.0 (r.cursors pair).y.0

unfoldable pub loading : Access → State → State
loading k s = record s { regs = loaded k (stitches_at (pair_number k.pair) s.regs s.shown) s.regs }

-- the coordinate, then the register
abbrev pub peeking : Access → State → State
peeking k s = loading k (record s { regs = pointed k s.regs })

abbrev pub peeked : ℕ → State → State
peeked a s = after peeking (admitted a s.regs) s
