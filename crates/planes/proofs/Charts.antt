-- Laws of charts.
-- Assumes nothing.
use Rattle.std.proofs.Common.{◌≡◌, ℕ, ◌+◌, ◌-◌, ◌*◌, ◌/◌, ◌%◌, ◌^◌, ◌<◌, ◌≤◌, Bool, true, false, cond, ◌&&◌, eqb, ltb, Ok, Err, Result, sym, refl, ap, ◌∙◌, ap₂, inl, inr, add_assoc, arith}
use Rattle.std.proofs.lemmas.Bool.{true≢false, eqb-true, ltb-true, lt-ltb, le-ltb, and_parts, and_left, and_right, cases_lt, cases_eq, eq-eqb, ne_eqb}
use Rattle.words.specs.Bit.{bit, across}
use Rattle.words.proofs.Bits.{bit_pack, pack_lt, pack_from_bits, bit_none}
use Rattle.words.proofs.Whole.{across_left, across_right}
use Rattle.planes.specs.declared.refusal.Refusal.{Refusal}
use Rattle.planes.specs.declared.refusal.Refusal.TheVariants.{OffPlane}
use Rattle.planes.specs.Answer.{answer}
use Rattle.planes.specs.Chart.{Chart, chart, within, window, on_plane, written, in_word}

-- two charts of one height with the same stitches are one chart
pub chart_path : (a b : Chart) → a.height ≡ b.height → ((x y : ℕ) → a.on x y ≡ b.on x y) → a ≡ b
chart_path a b h e = λ i. record { height = h i; on = λ x y. e x y i }

pub chart_height : (h : ℕ) (f : ℕ → ℕ → Bool) → (chart h f).height ≡ h
unfolding chart
chart_height h f = refl

-- equal charts have one height
pub same_height : (h k : ℕ) (f g : ℕ → ℕ → Bool) → chart h f ≡ chart k g → h ≡ k
unfolding chart
same_height h k f g e = ap (λ (p : Chart). p.height) e

-- off outside of the plane
pub chart_off : (h : ℕ) (f : ℕ → ℕ → Bool) (x y : ℕ) → within h x y ≡ false → (chart h f).on x y ≡ false
unfolding chart
chart_off h f x y e = and_left (within h x y) (f x y) e

pub within_wide : (h x y : ℕ) → 1024 ≤ x → within h x y ≡ false
within_wide h x y l = and_left (ltb x 1024) (ltb y h) (le-ltb x 1024 l)

pub within_high : (h x y : ℕ) → h ≤ y → within h x y ≡ false
within_high h x y l = and_right (ltb x 1024) (ltb y h) (le-ltb y h l)

-- ---- sixteen stitches
pub window_lt : (c : Chart) (x y : ℕ) → window c x y < 2 ^ 16
unfolding window
window_lt c x y = pack_lt (λ i. c.on (x + i) y)

pub window_bit : (c : Chart) (x y i : ℕ) → i < 16 → bit (window c x y) (15 - i) ≡ c.on (x + i) y
unfolding window
window_bit c x y i h = bit_pack (λ i. c.on (x + i) y) i h

pub window_is : (c : Chart) (x y n : ℕ) → n < 2 ^ 16 → ((i : ℕ) → i < 16 → bit n (15 - i) ≡ c.on (x + i) y) → n ≡ window c x y
unfolding window
window_is c x y n small e = pack_from_bits n (λ i. c.on (x + i) y) small e

-- outside of the plane there is nothing on
window_none : (c : Chart) (x y : ℕ) → ((i : ℕ) → i < 16 → c.on (x + i) y ≡ false) → 0 ≡ window c x y
window_none c x y e = window_is c x y 0 (omega arith) (λ i h. bit_none (15 - i) ∙ sym (e i h))

pub window_wide : (h : ℕ) (f : ℕ → ℕ → Bool) (x y : ℕ) → 1024 ≤ x → 0 ≡ window (chart h f) x y
window_wide h f x y l = window_none (chart h f) x y (λ i m. chart_off h f (x + i) y (within_wide h (x + i) y (omega arith)))

pub window_high : (h : ℕ) (f : ℕ → ℕ → Bool) (x y : ℕ) → h ≤ y → 0 ≡ window (chart h f) x y
window_high h f x y l = window_none (chart h f) x y (λ i m. chart_off h f (x + i) y (within_high h (x + i) y l))

-- the sixteen stitches that start s stitches into two words
pub window_two : (c : Chart) (q y s left right n : ℕ) → s < 16 → n < 2 ^ 16 →
    left ≡ window c (16 * q) y → right ≡ window c (16 * (q + 1)) y →
    ((k : ℕ) → k < 16 → bit n (15 - k) ≡ across left right (s + k)) → n ≡ window c (16 * q + s) y
window_two c q y s left right n hs small is-left is_right e =
    window_is c (16 * q + s) y n small (λ k h. e k h ∙ at k h)
  where
    at : (k : ℕ) → k < 16 → across left right (s + k) ≡ c.on (16 * q + s + k) y
    at k h =
        elim (cases_lt (s + k) 16) [
          | inl a ↦
              across_left left right (s + k) a ∙ ap (λ (w : ℕ). bit w (15 - (s + k))) is-left
              ∙ window_bit c (16 * q) y (s + k) a ∙ ap (λ (u : ℕ). c.on u y) (sym (add_assoc (16 * q) s k))
          | inr b ↦
              let i : ℕ = s + k - 16 in
              let d : 31 - (s + k) ≡ 15 - i = omega arith in
              let u : 16 * (q + 1) + i ≡ 16 * q + s + k = omega arith in
              across_right left right (s + k) b ∙ ap₂ bit is_right d
              ∙ window_bit c (16 * (q + 1)) y i (omega arith) ∙ ap (λ (u : ℕ). c.on u y) u
        ]

-- ---- what is answered
pub on_parts : (h w y : ℕ) → on_plane h w y ≡ true → (w < 64) × (y < h)
unfolding on_plane
on_parts h w y t = let p = and_parts (ltb w 64) (ltb y h) t in (ltb-true w 64 p.0, ltb-true y h p.1)

pub on_from : (h w y : ℕ) → w < 64 → y < h → on_plane h w y ≡ true
unfolding on_plane
on_from h w y p q = rw (lt-ltb w 64 p, lt-ltb y h q)

pub ok_tells : {V : Type 0} (b : Bool) (v r : V) → ◌≡◌ {A = Result V Refusal} (Ok r) (cond b (Ok v) (Err OffPlane)) → (b ≡ true) × (r ≡ v)
ok_tells true v r e = (refl, cc)
ok_tells false v r e = absurd (cc)

pub err_tells : {V : Type 0} (b : Bool) (v : V) (x : Refusal) → ◌≡◌ {A = Result V Refusal} (Err x) (cond b (Ok v) (Err OffPlane)) → (b ≡ false) × (x ≡ OffPlane)
err_tells true v x e = absurd (cc)
err_tells false v x e = (refl, cc)

-- the place of a word that is accepted, on a plane of k courses
pub record Placed (k w y place r : ℕ) : Type 0 where
  pub few : w < 64
  pub low : y < k
  pub is : r ≡ place

pub placed : (h k w y place r : ℕ) → h ≡ k → Ok r ≡ answer h w y place → Placed k w y place r
placed h k w y place r same e =
    let (on, is) = ok_tells (on_plane h w y) place r e in
    let (few, low) = on_parts h w y on in
    record { few = few; low = omega arith; is = is }

pub on_wide : (h w y : ℕ) → 64 ≤ w → on_plane h w y ≡ false
unfolding on_plane
on_wide h w y l = and_left (ltb w 64) (ltb y h) (le-ltb w 64 l)

-- a word that is refused has nothing on
pub off_window : (h : ℕ) (f : ℕ → ℕ → Bool) (w y : ℕ) → on_plane h w y ≡ false → 0 ≡ window (chart h f) (16 * w) y
off_window h f w y e =
    elim (cases_lt w 64) [
      | inl a ↦
          elim (cases_lt y h) [
            | inl b ↦ absurd (true≢false (sym (on_from h w y a b) ∙ e))
            | inr b ↦ window_high h f (16 * w) y b
          ]
      | inr a ↦ window_wide h f (16 * w) y (omega arith)
    ]

pub refused_window : (h : ℕ) (f : ℕ → ℕ → Bool) (w y : ℕ) (x : Refusal) → Err x ≡ answer h w y (window (chart h f) (16 * w) y) → 0 ≡ window (chart h f) (16 * w) y
refused_window h f w y x e = off_window h f w y (err_tells (on_plane h w y) (window (chart h f) (16 * w) y) x e).0

pub read_window : (h : ℕ) (f : ℕ → ℕ → Bool) (w y v : ℕ) → Ok v ≡ answer h w y (window (chart h f) (16 * w) y) → v ≡ window (chart h f) (16 * w) y
read_window h f w y v e = (ok_tells (on_plane h w y) (window (chart h f) (16 * w) y) v e).1

-- ---- what a plane owes
pub answer_on : {V : Type 0} (h w y : ℕ) (v n : V) → w < 64 → y < h → n ≡ v → Ok n ≡ answer h w y v
answer_on h w y v n p q e = rw (on_from h w y p q) (ap Ok e)

pub answer_off : {V : Type 0} (h w y : ℕ) (v : V) → on_plane h w y ≡ false → Err OffPlane ≡ answer h w y v
answer_off h w y v off = rw off

-- off the plane nothing is written
pub written_off : (h : ℕ) (f : ℕ → ℕ → Bool) (w z n : ℕ) → on_plane h w z ≡ false → chart h f ≡ written w z n (chart h f)
unfolding chart written
written_off h f w z n off =
    chart_path (chart h f) (written w z n (chart h f)) refl (λ x y. at x y (within h x y) refl (in_word w z x y) refl)
  where
    at : (x y : ℕ) (p : Bool) → within h x y ≡ p → (b : Bool) → in_word w z x y ≡ b → (p && f x y) ≡ cond (p && b) (bit n (15 - x % 16)) (p && f x y)
    at x y false is b that = refl
    at x y true is false that = refl
    at x y true is true that =
        let (p, q) = and_parts (eqb (x / 16) w) (eqb y z) that in
        let (l, m) = and_parts (ltb x 1024) (ltb y h) is in
        let few : w < 64 = omega (arith, eqb-true (x / 16) w p, ltb-true x 1024 l) in
        let low : z < h = omega (arith, eqb-true y z q, ltb-true y h m) in
        absurd (true≢false (sym (on_from h w z few low) ∙ off))

pub refused_written : {V : Type 0} (h k : ℕ) (f : ℕ → ℕ → Bool) (w z n : ℕ) (v : V) (x : Refusal) → h ≡ k → Err x ≡ answer h w z v → chart k f ≡ written w z n (chart k f)
refused_written h k f w z n v x same e = written_off k f w z n (ap (λ (m : ℕ). on_plane m w z) (sym same) ∙ (err_tells (on_plane h w z) v x e).0)

-- on the plane a chart shows its stitches
pub chart_at : (h : ℕ) (f : ℕ → ℕ → Bool) (x y : ℕ) → x < 1024 → y < h → (chart h f).on x y ≡ f x y
unfolding chart
chart_at h f x y p q = rw (lt-ltb x 1024 p, lt-ltb y h q)

-- a word, by the stitches
pub window_by : (h : ℕ) (f : ℕ → ℕ → Bool) (w y n : ℕ) → w < 64 → y < h → n < 2 ^ 16 → ((i : ℕ) → i < 16 → bit n (15 - i) ≡ f (16 * w + i) y) → n ≡ window (chart h f) (16 * w) y
window_by h f w y n p q small e = window_is (chart h f) (16 * w) y n small (λ i l. e i l ∙ sym (chart_at h f (16 * w + i) y (omega arith) q))

-- a word that is written, by the stitches in it and those outside of it
pub written_by : (h : ℕ) (f g : ℕ → ℕ → Bool) (w z n : ℕ) →
    ((x y : ℕ) → x < 1024 → x / 16 ≡ w → y ≡ z → g x y ≡ bit n (15 - x % 16)) →
    ((x y : ℕ) → x < 1024 → (x / 16 ≡ w → y ≡ z → ⊥) → g x y ≡ f x y) →
    chart h g ≡ written w z n (chart h f)
unfolding chart written
written_by h f g w z n within-it outside =
    chart_path (chart h g) (written w z n (chart h f)) refl (λ x y. at x y (within h x y) refl)
  where
    stitch : (x y : ℕ) → x < 1024 → g x y ≡ cond (in_word w z x y) (bit n (15 - x % 16)) (f x y)
    stitch x y l =
        elim (cases_eq (x / 16) w) [
          | inl d ↦
              elim (cases_eq y z) [
                | inl e ↦ rw (eq-eqb (x / 16) w d, eq-eqb y z e) (within-it x y l d e)
                | inr e ↦ rw (eq-eqb (x / 16) w d, ne_eqb y z e) (outside x y l (λ _ q. e q))
              ]
          | inr d ↦ rw (ne_eqb (x / 16) w d) (outside x y l (λ q _. d q))
        ]

    at : (x y : ℕ) (p : Bool) → within h x y ≡ p → (p && g x y) ≡ cond (p && in_word w z x y) (bit n (15 - x % 16)) (p && f x y)
    at x y false is = refl
    at x y true is = stitch x y (ltb-true x 1024 (and_parts (ltb x 1024) (ltb y h) is).0)
