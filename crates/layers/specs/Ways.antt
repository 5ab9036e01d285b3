-- That a view keeps the laws if each stitch that shows is one stitch below; only the lines `laws` of views stand on this.
-- Assumes nothing.
use Rattle.std.proofs.Common.{◌≡◌, ℕ, ◌+◌, ◌-◌, ◌*◌, ◌/◌, ◌%◌, ◌^◌, ◌<◌, Bool, false, cond, ◌&&◌, eqb, Ok, Err, Result, sym, refl, ap, ◌∙◌, ap₂, arith}
use Rattle.std.proofs.lemmas.Bool.{eqb-true, lt-ltb, eq-eqb}
use Rattle.std.proofs.lemmas.Bool.Decides.{nat_tests}
use Rattle.words.specs.Bit.{bit}
use Rattle.planes.specs.declared.numbers.Stretch.{Stretch}
use Rattle.planes.specs.declared.refusal.Refusal.{Refusal}
use Rattle.planes.specs.declared.refusal.Refusal.TheVariants.{OffPlane}
use Rattle.planes.specs.Chart.{Chart, chart, window, on_plane, written, in_word}
use Rattle.layers.specs.Layers.{ViewLaws}
use Rattle.planes.proofs.Charts.{chart_path, chart_at, window_bit, window_by, on_parts, window_lt}

-- ---- charts by the stitches on the plane

-- charts of h courses are one if their stitches agree on the plane
chart_agree : (h : ℕ) (f g : ℕ → ℕ → Bool) → ((x y : ℕ) → x < 1024 → y < h → f x y ≡ g x y) → chart h f ≡ chart h g
unfolding chart
chart_agree h f g e = chart_path (chart h f) (chart h g) refl (λ x y. grind (arith, nat_tests, e x y))

-- a word is written if the stitches on the plane say so
written_agree : (h : ℕ) (f g : ℕ → ℕ → Bool) (w z n : ℕ) →
    ((x y : ℕ) → x < 1024 → y < h → g x y ≡ cond (in_word w z x y) (bit n (15 - x % 16)) (f x y)) → chart h g ≡ written w z n (chart h f)
unfolding chart written
written_agree h f g w z n e = chart_path (chart h g) (written w z n (chart h f)) refl (λ x y. grind (arith, nat_tests, e x y))

-- a stitch of a chart with a word written
written_at : (h : ℕ) (f : ℕ → ℕ → Bool) (w z n x y : ℕ) → x < 1024 → y < h →
    (written w z n (chart h f)).on x y ≡ cond (in_word w z x y) (bit n (15 - x % 16)) (f x y)
unfolding chart written
written_at h f w z n x y p q = rw (lt-ltb x 1024 p, lt-ltb y h q)

-- ---- ways to show a plane, stitch by stitch

-- needle x of course y, of h, is needle `needle x` of course `course h y` below, and `tone` says how
pub record Way : Type 0 where
  pub needle : ℕ → ℕ
  pub course : ℕ → ℕ → ℕ
  pub tone : Bool → Bool
  pub wide : (x : ℕ) → x < 1024 → needle x < 1024
  pub high : (h y : ℕ) → y < h → course h y < h

abbrev pub seen : Way → ℕ → (ℕ → ℕ → Bool) → ℕ → ℕ → Bool
seen v h f x y = v.tone (f (v.needle x) (v.course h y))

-- a word and a course below in the place of word w of course y
pub record Place (v : Way) (h w y below_w below_y : ℕ) : Type 0 where
  pub words : (x : ℕ) → x < 1024 → eqb (v.needle x / 16) below_w ≡ eqb (x / 16) w
  pub courses : (z : ℕ) → z < h → eqb (v.course h z) below_y ≡ eqb z y
  pub on : on_plane h below_w below_y ≡ on_plane h w y

-- the bits of a word below, and those that it shows as
abbrev pub Shows : Way → (below above : ℕ) → Type 0
Shows v below above = (x : ℕ) → x < 1024 → v.tone (bit below (15 - v.needle x % 16)) ≡ bit above (15 - x % 16)

-- ---- what shows, of a plane of h courses that is on where f is

-- the chart that shows is told by the chart below
look : Way → Chart → Chart
look v c = chart c.height (seen v c.height c.on)

look_view : (v : Way) (h : ℕ) (f : ℕ → ℕ → Bool) → chart h (seen v h f) ≡ look v (chart h f)
unfolding chart look
look_view v h f =
    chart_agree h (seen v h f) (seen v h (chart h f).on) (λ x y p q. ap v.tone (sym (chart_at h f (v.needle x) (v.course h y) (v.wide x p) (v.high h y q))))

tone_cond : (v : Way) (t a b : Bool) → v.tone (cond t a b) ≡ cond t (v.tone a) (v.tone b)
tone_cond v t a b = grind arith

module _ (v : Way) {h w y u z : ℕ} (f : ℕ → ℕ → Bool) (place : Place v h w y u z) where
  -- a word written below is a word written
  look_written : (below above : ℕ) → Shows v below above → look v (written u z below (chart h f)) ≡ written w y above (chart h (seen v h f))
  unfolding chart written look
  look_written below above shows =
      written_agree h (seen v h f) (seen v h (written u z below (chart h f)).on) w y above (λ x t p q.
      ap v.tone (written_at h f u z below (v.needle x) (v.course h t) (v.wide x p) (v.high h t q))
      ∙ tone_cond v (in_word u z (v.needle x) (v.course h t)) (bit below (15 - v.needle x % 16)) (f (v.needle x) (v.course h t))
      ∙ ap₂ (λ (a b : Bool). cond (a && b) (v.tone (bit below (15 - v.needle x % 16))) (seen v h f x t)) (place.words x p) (place.courses t q)
      ∙ ap (λ (b : Bool). cond (in_word w y x t) b (seen v h f x t)) (shows x p))

  -- a word read below is a word read
  window_seen : (above : ℕ) → w < 64 → y < h → above < 2 ^ 16 → Shows v (window (chart h f) (16 * u) z) above → above ≡ window (chart h (seen v h f)) (16 * w) y
  window_seen above p q small shows =
      window_by h (seen v h f) w y above p q small (λ i l.
      let x : ℕ = 16 * w + i in
      let few : x < 1024 = omega arith in
      let n : ℕ = v.needle x in
      let on_word : n / 16 ≡ u = eqb-true (n / 16) u (place.words x few ∙ eq-eqb (x / 16) w (omega arith)) in
      let on_course : v.course h y ≡ z = eqb-true (v.course h y) z (place.courses y q ∙ eq-eqb y y refl) in
      let low : z < h = omega (arith, on_course, v.high h y q) in
      let there : 16 * u + n % 16 < 1024 = omega (arith, on_word, v.wide x few) in
      let bit_of : bit (window (chart h f) (16 * u) z) (15 - n % 16) ≡ f n (v.course h y) =
      window_bit (chart h f) (16 * u) z (n % 16) (omega arith)
      ∙ chart_at h f (16 * u + n % 16) z there low
      ∙ ap₂ f (omega (arith, on_word)) (sym on_course) in
      ap (λ (k : ℕ). bit above (15 - k)) (omega arith)
      ∙ sym (shows x few)
      ∙ ap v.tone bit_of)

-- ---- the laws

-- what shows in such a way keeps the laws, if each word lies in its place below, and turned is how it shows, both ways
pub record Keeps (v : Way) (below : (h w y : ℕ) → Result Stretch Refusal) (turned : ℕ → ℕ) : Type 0 where
  pub refused : (h w y : ℕ) (e : Refusal) → below h w y ≡ Err e → (e ≡ OffPlane) × (on_plane h w y ≡ false)
  pub place : (h w y : ℕ) (p : Stretch) → below h w y ≡ Ok p → Place v h w y p.word.0 p.course.0
  pub small : (n : ℕ) → n < 2 ^ 16 → turned n < 2 ^ 16
  pub up : (n : ℕ) → n < 2 ^ 16 → Shows v n (turned n)
  pub down : (n : ℕ) → n < 2 ^ 16 → Shows v (turned n) n

pub laws : (v : Way) {below : (h w y : ℕ) → Result Stretch Refusal} {turned : ℕ → ℕ} → Keeps v below turned → ViewLaws (seen v) below turned
laws v {below} {turned} keeps = record {
  same = λ h k f g e. look_view v h f ∙ ap (look v) e ∙ sym (look_view v k g);
  refused = keeps.refused;
  placed = λ h w y p lies. (keeps.place h w y p lies).on;
  read = λ h w y f p lies on.
      let n : ℕ = window (chart h f) (16 * p.word.0) p.course.0 in
      let few : n < 2 ^ 16 = window_lt (chart h f) (16 * p.word.0) p.course.0 in
      let (a, b) = on_parts h w y on in
      window_seen v f (keeps.place h w y p lies) (turned n) a b (keeps.small n few) (keeps.up n few);
  put = λ h k w y n f g p lies few e.
      look_view v k g ∙ ap (look v) e ∙ look_written v f (keeps.place h w y p lies) (turned n) n (keeps.down n few);
}
