-- What a layer answers and makes of its chart, by the laws of its view and what the plane below does.
-- Assumes nothing.
use Rattle.std.proofs.Common.{◌≡◌, ℕ, ◌*◌, ◌^◌, ◌<◌, Bool, cond, Ok, Err, Result, sym, ap, ◌∙◌, ap₂, arith}
use Rattle.planes.specs.declared.numbers.Stretch.{Stretch}
use Rattle.planes.specs.declared.refusal.Refusal.{Refusal}
use Rattle.planes.specs.declared.refusal.Refusal.TheVariants.{OffPlane}
use Rattle.planes.specs.Answer.{answer}
use Rattle.planes.specs.Chart.{chart, window, on_plane, written}
use Rattle.planes.proofs.Charts.{same_height, written_off}
use Rattle.layers.specs.Layers.{ViewLaws}

-- p is where the plane below is on, of h courses, and q and k are these after it was asked for its height
module _ {shows : ℕ → (ℕ → ℕ → Bool) → ℕ → ℕ → Bool} {below : (h w y : ℕ) → Result (Stretch) Refusal} {turned : ℕ → ℕ} (laws : ViewLaws shows below turned)
    {h : ℕ} (k : ℕ) (p q : ℕ → ℕ → Bool) (same : chart k q ≡ chart h p) {w y : ℕ} where
  -- a word that is refused is not written
  pub put_refused : (n : ℕ) {e : Refusal} → Err e ≡ below h w y → chart k (shows k q) ≡ written w y n (chart h (shows h p))
  put_refused n {e} none = laws.same k h q p same ∙ written_off h (shows h p) w y n (laws.refused h w y e (sym none)).1

  module _ {at : Stretch} (lies : Ok at ≡ below h w y) where
    on_same : on_plane k at.word.0 at.course.0 ≡ on_plane h w y
    on_same = ap (λ (m : ℕ). on_plane m at.word.0 at.course.0) (same_height k h q p same) ∙ laws.placed h w y at (sym lies)

    -- what the plane below refuses is refused
    pub read_refused : {e : Refusal} (a b : ℕ) → Err e ≡ answer k at.word.0 at.course.0 a → Err e ≡ answer h w y b
    read_refused {e} a b r = grind (arith, on_same)

    -- what it answers is answered, turned
    pub read_turned : {n : ℕ} → Ok n ≡ answer k at.word.0 at.course.0 (window (chart k q) (16 * at.word.0) at.course.0) → Ok (turned n) ≡ answer h w y (window (chart h (shows h p)) (16 * w) y)
    read_turned {n} r = grind (arith, on_same, same, laws.read h w y p at (sym lies))

    -- a word is written where it is written below
    pub write_told : {r : Result (Unit {0}) Refusal} → r ≡ answer k at.word.0 at.course.0 tt → r ≡ answer h w y tt
    write_told e = e ∙ ap (λ (b : Bool). cond b (Ok tt) (Err OffPlane)) on_same

    pub put_turned : (m : ℕ) {n there : ℕ} (f : ℕ → ℕ → Bool) → n < 2 ^ 16 → there ≡ turned n → chart m f ≡ written at.word.0 at.course.0 there (chart k q) → chart m (shows m f) ≡ written w y n (chart h (shows h p))
    put_turned m {n} {there} f small is e = laws.put h m w y n p f at (sym lies) small (e ∙ ap₂ (written at.word.0 at.course.0) is same)
