-- A course, word by word.
-- Assumes nothing.
use Rattle.std.proofs.Common.{◌≡◌, ℕ, ◌+◌, ◌-◌, ◌*◌, ◌/◌, ◌%◌, ◌<◌, ◌≤◌, Bool, true, false, ◌&&◌, ltb, List, length, sym, ap, ◌∙◌, arith}
use Rattle.std.proofs.lemmas.Bool.{lt-ltb}
use Rattle.std.proofs.lemmas.Bool.Decides.{nat_tests}
use Rattle.words.specs.Bit.{pack}
use Rattle.words.specs.Bytes.{overlaid, byte_of, half, stored}
use Rattle.words.proofs.Bits.{bit_none, pack_from_bits}
use Rattle.words.proofs.Overlays.{overlaid_none, overlaid_at, store_more, half_row, byte_bit}
use Rattle.planes.specs.Chart.{Chart, chart, window}
use Rattle.planes.specs.FlatLayout.{flat_on}
use Rattle.planes.proofs.Charts.{window_lt, window_bit}
use Rattle.board.specs.Scans.{lit, painted, Displays}

-- ---- one word
pub glimpse_on : (light : Bool) (c : Chart) (w y n : ℕ) → light ≡ true → n ≡ window c (16 * w) y → n ≡ pack (λ i. light && c.on (16 * w + i) y)
glimpse_on light c w y n on is =
    is
    ∙ pack_from_bits (window c (16 * w) y) (λ i. light && c.on (16 * w + i) y) (window_lt c (16 * w) y)
    (λ i h. window_bit c (16 * w) y i h ∙ ap (λ (b : Bool). b && c.on (16 * w + i) y) (sym on))

pub glimpse_off : (light : Bool) (c : Chart) (w y : ℕ) → light ≡ false → 0 ≡ pack (λ i. light && c.on (16 * w + i) y)
glimpse_off light c w y off =
    pack_from_bits 0 (λ i. light && c.on (16 * w + i) y) (omega arith) (λ i h. bit_none (15 - i) ∙ ap (λ (b : Bool). b && c.on (16 * w + i) y) (sym off))

-- ---- word after word: the first w words of a row
abbrev pub front : (row : ℕ → Bool) (w : ℕ) → List ℕ → List ℕ
front row w bytes = overlaid (λ i. ltb i (2 * w)) (byte_of row) bytes

pub front_none : (row : ℕ → Bool) (bytes : List ℕ) → bytes ≡ front row 0 bytes
front_none row bytes = sym (overlaid_none (λ i. ltb i 0) (byte_of row) bytes (λ i. grind (arith, nat_tests)))

pub front_more : (row : ℕ → Bool) (w n : ℕ) (bytes : List ℕ) → w < length bytes / 2 → n ≡ pack (λ i. row (16 * w + i)) → stored w n (front row w bytes) ≡ front row (w + 1) bytes
front_more row w n bytes room is =
    store_more w n (λ i. ltb i (2 * w)) (λ i. ltb i (2 * (w + 1))) (byte_of row) bytes room
    (λ i at. ap (λ (m : ℕ). half m i) is ∙ half_row row w i at) (λ i. grind (arith, nat_tests))

-- ---- which courses have anything on
pub lights_on : (h : ℕ) (f : ℕ → ℕ → Bool) (status y x : ℕ) → status / 2 % 2 ≡ 1 → (ltb y h && (chart h f).on x y) ≡ (lit status && (chart h f).on x y)
unfolding chart
lights_on h f status y x on = grind (arith, nat_tests)

-- ---- a course's bytes in Flat's layout
pub painted_shows : (light : Bool) (c : Chart) (y : ℕ) (bytes : List ℕ) → 128 ≤ length bytes → Displays light c y (painted light c y bytes)
unfolding flat_on
painted_shows light c y bytes room x wide =
    let row : ℕ → Bool = λ u. light && c.on u y in
    let at = overlaid_at (λ i. ltb i 128) (byte_of row) bytes (x / 8) (omega arith) (lt-ltb (x / 8) 128 (omega arith)) in
    let is = byte_bit row x in
    grind arith
