-- Drawings of regions, piece by piece.
-- Assumes nothing.
use Rattle.std.proofs.Common.{◌≡◌, ℕ, ◌+◌, ◌-◌, ◌*◌, ◌/◌, ◌%◌, ◌<◌, ◌≤◌, Bool, true, false, cond, ◌&&◌, ◌||◌, eqb, ltb, Err, sym, refl, ap, ◌∙◌, ap₂, arith}
use Rattle.std.proofs.lemmas.Bool.{and_parts, eqb-true, ltb-true, true≢false}
use Rattle.std.proofs.lemmas.Bool.Decides.{nat_tests}
use Rattle.words.specs.Bit.{bit}
use Rattle.planes.specs.declared.refusal.Refusal.{Refusal}
use Rattle.planes.specs.Answer.{answer}
use Rattle.planes.specs.Chart.{Chart, chart, within, on_plane, written, in_word}
use Rattle.planes.specs.Drawn.{chosen, masked, drawn, reach, picked}
use Rattle.planes.proofs.Charts.{chart_path, chart_height, on_from, err_tells}

-- ---- at one stitch: w is whether it lies on the plane, k what the code makes of a stitch
stitch_more : (w r p q : Bool) (k : Bool → Bool) (d : Bool) →
    (w ≡ true → r ≡ true → p ≡ true → ⊥) → (w ≡ true → q ≡ (r || p)) →
    cond (w && p) (k (cond (w && r) (k d) d)) (cond (w && r) (k d) d) ≡ cond (w && q) (k d) d
stitch_more false r p q k d apart is = refl
stitch_more true true true q k d apart is = absurd (apart refl refl refl)
stitch_more true true false q k d apart is = ap (λ b. cond b (k d) d) (sym (is refl))
stitch_more true false p q k d apart is = ap (λ b. cond b (k d) d) (sym (is refl))

stitch_none : (w r : Bool) (a d : Bool) → (w ≡ true → r ≡ false) → cond (w && r) a d ≡ d
stitch_none false r a d e = refl
stitch_none true r a d e = ap (λ b. cond b a d) (e refl)

stitch_same : (w r q : Bool) (k : Bool → Bool) (s t d : Bool) → (w ≡ true → r ≡ q) → (w ≡ true → q ≡ true → s ≡ t) →
    cond (w && r) (k s) d ≡ cond (w && q) (k t) d
stitch_same false r q k s t d e h = refl
stitch_same true r true k s t d e h = ap (λ b. cond b (k s) d) (e refl) ∙ ap k (h refl refl)
stitch_same true r false k s t d e h = ap (λ b. cond b (k s) d) (e refl)

pub drawn_height : (r : ℕ → ℕ → Bool) (code mask : ℕ) (s : ℕ → ℕ → Bool) (c : Chart) → (drawn r code mask s c).height ≡ c.height
unfolding drawn
drawn_height r code mask s c = refl

module _ (code mask : ℕ) (c : Chart) where
  -- one more piece p, apart from the region r that is drawn already, makes the region q
  pub drawn_more : (r p q source : ℕ → ℕ → Bool) →
      ((x y : ℕ) → within c.height x y ≡ true → r x y ≡ true → p x y ≡ true → ⊥) →
      ((x y : ℕ) → within c.height x y ≡ true → q x y ≡ (r x y || p x y)) →
      drawn p code mask source (drawn r code mask source c) ≡ drawn q code mask source c
  unfolding drawn
  drawn_more r p q source apart is =
      chart_path (drawn p code mask source (drawn r code mask source c)) (drawn q code mask source c) refl
      (λ x y. stitch_more (within c.height x y) (r x y) (p x y) (q x y) (chosen code (masked mask x) (source x y)) (c.on x y)
      (apart x y) (is x y))

  pub drawn_none : (r source : ℕ → ℕ → Bool) →
      ((x y : ℕ) → within c.height x y ≡ true → r x y ≡ false) →
      drawn r code mask source c ≡ c
  unfolding drawn
  drawn_none r source e =
      chart_path (drawn r code mask source c) c refl
      (λ x y. stitch_none (within c.height x y) (r x y) (chosen code (masked mask x) (source x y) (c.on x y)) (c.on x y) (e x y))

  -- only the stitches on the plane count, and the source only within the region
  pub drawn_same : (r q s t : ℕ → ℕ → Bool) →
      ((x y : ℕ) → within c.height x y ≡ true → r x y ≡ q x y) →
      ((x y : ℕ) → within c.height x y ≡ true → q x y ≡ true → s x y ≡ t x y) →
      drawn r code mask s c ≡ drawn q code mask t c
  unfolding drawn
  drawn_same r q s t e h =
      chart_path (drawn r code mask s c) (drawn q code mask t c) refl
      (λ x y. stitch_same (within c.height x y) (r x y) (q x y) (λ b. chosen code (masked mask x) b (c.on x y)) (s x y) (t x y) (c.on x y) (e x y) (h x y))

-- a word that has the bits of a drawing, written in its place, draws the stitches of that word where `here` has ones
pub written_drawn : (code mask source here : ℕ) (c : Chart) (w z n : ℕ) →
    ((i : ℕ) → i < 16 → bit n (15 - i) ≡
    cond (bit here (15 - i))
    (chosen code (bit mask (15 - i)) (bit source (15 - i)) (c.on (16 * w + i) z)) (c.on (16 * w + i) z)) →
    written w z n c ≡ drawn (picked w z here) code mask (λ u v. masked source u) c
unfolding drawn written
written_drawn code mask source here c w z n e =
    chart_path (written w z n c) (drawn (picked w z here) code mask (λ u v. masked source u) c) refl
    (λ x y. at x y (within c.height x y) (in_word w z x y) refl)
  where
    at : (x y : ℕ) (in_plane b : Bool) → in_word w z x y ≡ b →
        cond (in_plane && b) (bit n (15 - x % 16)) (c.on x y) ≡
        cond (in_plane && (b && masked here x)) (chosen code (masked mask x) (masked source x) (c.on x y)) (c.on x y)
    at x y false b is = refl
    at x y true false is = refl
    at x y true true is =
        let (p, q) = and_parts (eqb (x / 16) w) (eqb y z) is in
        let px : 16 * w + x % 16 ≡ x = omega (arith, eqb-true (x / 16) w p) in
        let py : z ≡ y = sym (eqb-true y z q) in
        e (x % 16) (omega arith) ∙
        ap₂ (λ (u v : ℕ). cond (masked here x) (chosen code (masked mask x) (masked source x) (c.on u v)) (c.on u v)) px py

-- a word off the plane has no stitch to draw
pub off_drawn : (h : ℕ) (f : ℕ → ℕ → Bool) (code mask here w z : ℕ) (source : ℕ → ℕ → Bool) →
    on_plane h w z ≡ false → chart h f ≡ drawn (picked w z here) code mask source (chart h f)
off_drawn h f code mask here w z source off =
    sym (drawn_none code mask (chart h f) (picked w z here) source (λ u y t. at u y (in_word w z u y) refl (rw (chart_height h f) at t)))
  where
    at : (u y : ℕ) (b : Bool) → in_word w z u y ≡ b → within h u y ≡ true → (b && masked here u) ≡ false
    at u y false is t = refl
    at u y true is t =
        let (p, q) = and_parts (eqb (u / 16) w) (eqb y z) is in
        let (l, m) = and_parts (ltb u 1024) (ltb y h) t in
        let few : w < 64 = omega (arith, eqb-true (u / 16) w p, ltb-true u 1024 l) in
        let low : z < h = omega (arith, eqb-true y z q, ltb-true y h m) in
        absurd (true≢false (sym (on_from h w z few low) ∙ off))

-- nor has one that the plane refuses
pub refused_drawn : {V : Type 0} (h : ℕ) (f : ℕ → ℕ → Bool) (code mask here w z : ℕ) (source : ℕ → ℕ → Bool) (v : V) (x : Refusal) →
    Err x ≡ answer h w z v → chart h f ≡ drawn (picked w z here) code mask source (chart h f)
refused_drawn h f code mask here w z source v x e = off_drawn h f code mask here w z source (err_tells (on_plane h w z) v x e).0

-- above the plane nothing is drawn
pub high_drawn : (h : ℕ) (f : ℕ → ℕ → Bool) (code mask x y width : ℕ) (source : ℕ → ℕ → Bool) →
    h ≤ y → chart h f ≡ drawn (reach x y width) code mask source (chart h f)
high_drawn h f code mask x y width source above =
    sym (drawn_none code mask (chart h f) (reach x y width) source (λ u v t. at u v (rw (chart_height h f) at t)))
  where
    at : (u v : ℕ) → within h u v ≡ true → reach x y width u v ≡ false
    at u v t = grind (arith, nat_tests)
