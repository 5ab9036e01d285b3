-- That Mirror, Roll and Negative keep the laws of a view; only their lines `laws` stand on this.
-- Assumes nothing.
use Rattle.std.proofs.Common.{◌≡◌, ℕ, ◌+◌, ◌-◌, ◌%◌, ◌<◌, ◌≤◌, not, ◌⊎◌, sym, refl, ap, ◌∙◌, inl, inr, mod-lt, mod-eq_of_lt, arith}
use native.Mathlib.Nat.{add-mod-mod, mod-eq-sub-mod}
use Rattle.std.proofs.lemmas.Bool.{cases_lt}
use Rattle.std.proofs.lemmas.Bool.Decides.{nat_tests}
use Rattle.words.specs.Bit.{bit}
use Rattle.words.proofs.Bits.{bit_of_not, bit_pack, pack_lt}
use Rattle.planes.specs.Chart.{on_plane}
use Rattle.layers.specs.Layers.{mirrored, negated, rolled, mirror_below, negative_below, roll_below, reversed, flipped, ViewLaws}
use Rattle.layers.specs.Ways.{Way, laws}

-- ---- left for right

abbrev mirror : Way
mirror = record { needle = λ x. 1023 - x; course = λ h y. y; tone = λ b. b; wide = λ x p. omega arith; high = λ h y q. q }

reversed_bit : (n k : ℕ) → k < 16 → bit (reversed n) k ≡ bit n (15 - k)
reversed_bit n k l =
    let i : ℕ = 15 - k in
    let e : 15 - i ≡ k = omega arith in
    ap (bit (reversed n)) (sym e) ∙ bit_pack (bit n) i (omega arith)

pub mirror_laws : ViewLaws (λ _. mirrored) mirror_below reversed
unfolding on_plane
mirror_laws = laws mirror (record {
  refused = λ h w y x e. grind (arith, nat_tests);
  place = λ h w y p e. record { words = λ x q. grind (arith, nat_tests); courses = λ z l. grind (arith, nat_tests); on = grind (arith, nat_tests) };
  small = λ n l. pack_lt (bit n);
  up = λ n l x q. grind (arith, reversed_bit n (15 - x % 16) (omega arith));
  down = λ n l x q. grind (arith, reversed_bit n (x % 16) (omega arith));
})

-- ---- on for off

abbrev negative : Way
negative = record { needle = λ x. x; course = λ h y. y; tone = not; wide = λ x p. p; high = λ h y q. q }

pub negative_laws : ViewLaws (λ _. negated) negative_below flipped
negative_laws = laws negative (record {
  refused = λ h w y x e. grind arith;
  place = λ h w y p e. record { words = λ x q. grind arith; courses = λ z l. grind arith; on = grind arith };
  small = λ n l. omega arith;
  up = λ n l x q. grind (arith, bit_of_not 16 n (15 - x % 16) l (omega arith));
  down = λ n l x q. grind (arith, bit_of_not 16 n (15 - x % 16) l (omega arith));
})

-- ---- courses on

abbrev roll : ℕ → Way
roll by = record { needle = λ x. x; course = λ h y. (y + by) % h; tone = λ b. b; wide = λ x p. p; high = λ h y q. mod-lt (y + by) (omega arith) }

wraps : (n h : ℕ) → n < h + h → ((n < h) × (n % h ≡ n)) ⊎ ((h ≤ n) × (n % h ≡ n - h))
wraps n h l =
    elim (cases_lt n h) [
      | inl a ↦ inl (a, mod-eq_of_lt a)
      | inr a ↦ let b : n - h < h = omega arith in inr (a, mod-eq-sub-mod a ∙ mod-eq_of_lt b)
    ]

-- no two courses show the same one
one_course : (by h y z : ℕ) → y < h → z < h → (z + by) % h ≡ (y + by) % h → z ≡ y
one_course by h y z p q e =
    let m : by % h < h = mod-lt by (omega arith) in
    grind (arith, add-mod-mod y by h, add-mod-mod z by h, wraps (y + by % h) h (omega arith), wraps (z + by % h) h (omega arith))

pub roll_laws : (by : ℕ) → ViewLaws (rolled by) (roll_below by) (λ n. n)
unfolding on_plane
roll_laws by = laws (roll by) (record {
  refused = λ h w y x e. grind (arith, nat_tests);
  place = λ h w y p e.
      let m : 0 < h → (y + by) % h < h = mod-lt (y + by) in
      record { words = λ x q. grind (arith, nat_tests); courses = λ z l. grind (arith, nat_tests, one_course by h y z); on = grind (arith, nat_tests) };
  small = λ n l. l;
  up = λ n l x q. refl;
  down = λ n l x q. refl;
})
