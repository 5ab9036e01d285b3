-- Lift: whether it is accepted, and the bytes that it writes.
use Rattle.std.specs.Prelude.{◌≡◌, ℕ, ◌+◌, ◌-◌, ◌*◌, ◌/◌, ◌%◌, ◌<◌, Bool, cond, ◌&&◌, List, Ok, Err, Result, nat_lt, slice_index}
use Rattle.words.specs.Bit.{bit}
use Rattle.words.specs.Bytes.{overlaid, byte_of}
use Rattle.planes.specs.declared.refusal.Refusal.{Refusal}
use Rattle.planes.specs.declared.refusal.Refusal.TheVariants.{ShortBuffer}
use Rattle.planes.specs.Chart.{Chart}
use Rattle.board.specs.State.{State}
use Rattle.drawing.specs.Figures.{Area}
use Rattle.drawing.specs.Fills.{fill_ruling}

-- how many words, of two bytes each, a row of a pattern takes: one for each sixteen needles, or a part of them
abbrev pub row_words : Area → ℕ
row_words a = (a.w + 15) / 16

abbrev pub row_bytes : Area → ℕ
row_bytes a = 2 * row_words a

abbrev pub pattern_bytes : Area → ℕ
pattern_bytes a = row_bytes a * a.h

-- a buffer of so many bytes has to hold the rows of the rectangle
abbrev pub roomy : (size : ℕ) → Result Area Refusal → Result Area Refusal
roomy size (Ok a) = cond (nat_lt size (pattern_bytes a)) (Err ShortBuffer) (Ok a)
roomy size (Err e) = Err e

abbrev pub lift_ruling : State → Area → (size : ℕ) → Result Area Refusal
lift_ruling s a size = roomy size (fill_ruling s a)

-- bit u of row j is the stitch there, and the spare bits past the width are zero
abbrev pub lifted_row : Chart → Area → (j u : ℕ) → Bool
lifted_row c a j u = nat_lt u a.w && c.on (a.x + u) (a.y + j)

-- byte i of the rows, one after the other
abbrev pub lifted_byte : Chart → Area → ℕ → ℕ
lifted_byte c a i = byte_of (lifted_row c a (i / row_bytes a)) (i % row_bytes a)

-- an accepted lift writes the rows, and later bytes stay; a refused one writes nothing
abbrev pub lifted : Result Area Refusal → Chart → List ℕ → List ℕ
lifted (Ok a) c bytes = overlaid (λ i. nat_lt i (pattern_bytes a)) (lifted_byte c a) bytes
lifted (Err e) c bytes = bytes

-- ---- the law of `lifted`
-- bit i of row j of a pattern, rows one after the other, the leftmost bit first
abbrev pub pattern_bit : Area → List ℕ → (j i : ℕ) → Bool
pattern_bit a bytes j i = bit (slice_index bytes (j * row_bytes a + i / 8)) (7 - i % 8)

-- every bit of every row is the stitch there, or zero past the width
abbrev pub Rows : Chart → Area → List ℕ → Type 0
Rows c a bytes = (j i : ℕ) → j < a.h → i < 8 * row_bytes a → pattern_bit a bytes j i ≡ lifted_row c a j i
