-- A fill, strip by strip.
-- Assumes nothing.
use Rattle.std.proofs.Common.{◌≡◌, ℕ, ◌+◌, ◌-◌, ◌*◌, ◌<◌, ◌≤◌, min, Bool, true, sym, refl, ap, ◌∙◌, rules, arith}
use Rattle.std.proofs.lemmas.Bool.Decides.{nat_tests}
use Rattle.words.proofs.Bits.{bit_ones}
use Rattle.planes.specs.Drawn.{drawn, reach, laid}
use Rattle.planes.proofs.Drawings.{drawn_none, drawn_same, drawn_more}
use Rattle.board.specs.State.{State}
use Rattle.board.specs.Steps.{poking, updated}
use Rattle.drawing.specs.Figures.{Area, inside, all_on}
use Rattle.drawing.specs.Setting.{Inked, Aimed, Drew, by_course, strip}

-- ---- one strip, course after course
-- the courses of a strip above course z
abbrev pub above : Area → ℕ → Area
above a z = record { x = a.x; y = a.y; w = a.w; h = z - a.y }

-- the courses of a strip above course z are drawn, and width and needle are the strip's
pub record Begun (a : Area) (z : ℕ) (s t : State) : Type 0 where
  pub drew : Drew (above a z) s.regs.function s.regs.mask s t
  pub width_is : t.regs.width ≡ a.w
  pub x_is : (t.regs.cursors 3).x.0 ≡ a.x

pub begun_none : (a : Area) (s t : State) → Aimed a s t → Begun a a.y s t
begun_none a s t p = record {
  drew = record {
    shown = p.quiet.shown ∙ sym (drawn_none s.regs.function s.regs.mask s.shown (inside (above a a.y)) all_on (λ u v _. grind (arith, nat_tests)));
    spent = p.quiet.spent;
    function_is = p.function_is;
    mask_is = p.mask_is;
  };
  width_is = p.width_is;
  x_is = p.x_is;
}

pub begun_more : (a : Area) (z : ℕ) (s t : State) → a.y ≤ z → Begun a z s t → Begun a (z + 1) s (poking 65535 (by_course z true) t)
unfolding poking updated
begun_more a z s t h r =
    let code : ℕ = s.regs.function in
    let mask : ℕ = s.regs.mask in
    let here : ℕ → ℕ → Bool = reach a.x z a.w in
    record {
      drew = record {
        shown =
            (λ i. drawn (reach (r.x_is i) z (r.width_is i)) (r.drew.function_is i) (r.drew.mask_is i) (laid (r.x_is i) 65535) t.shown)
            ∙ drawn_same code mask t.shown here here (laid a.x 65535) all_on (λ u v _. refl) (λ u v _ _. bit_ones 16 (15 - (u - a.x)) (omega arith))
            ∙ ap (drawn here code mask all_on) r.drew.shown
            ∙ drawn_more code mask s.shown (inside (above a z)) here (inside (above a (z + 1))) all_on (λ u v _. grind (arith, nat_tests)) (λ u v _. grind (arith, nat_tests));
        spent = search (rules, arith, nat_tests);
        function_is = r.drew.function_is;
        mask_is = r.drew.mask_is;
      };
      width_is = r.width_is;
      x_is = r.x_is;
    }

-- ---- strip after strip
-- the first k strips of an area
abbrev pub front : Area → ℕ → Area
front a k = record { x = a.x; y = a.y; w = min a.w (16 * k); h = a.h }

pub drew_none : (a : Area) (code mask : ℕ) (s t : State) → Inked code mask s t → Drew (front a 0) code mask s t
drew_none a code mask s t p = record {
  shown = p.quiet.shown ∙ sym (drawn_none code mask s.shown (inside (front a 0)) all_on (λ u v _. grind (arith, nat_tests)));
  spent = p.quiet.spent;
  function_is = p.function_is;
  mask_is = p.mask_is;
}

pub drew_more : (a : Area) (k code mask : ℕ) (s t u : State) → 16 * k < a.w → Drew (front a k) code mask s t → Drew (strip a k) t.regs.function t.regs.mask t u → Drew (front a (k + 1)) code mask s u
drew_more a k code mask s t u h p q = record {
  shown =
      q.shown
      ∙ (λ i. drawn (inside (strip a k)) (p.function_is i) (p.mask_is i) all_on (p.shown i))
      ∙ drawn_more code mask s.shown (inside (front a k)) (inside (strip a k)) (inside (front a (k + 1))) all_on (λ u v _. grind (arith, nat_tests)) (λ u v _. grind (arith, nat_tests));
  spent = search rules;
  function_is = q.function_is ∙ p.function_is;
  mask_is = q.mask_is ∙ p.mask_is;
}
