-- What the address of an access asks for.
-- Assumes nothing.
use Rattle.std.proofs.Common.{◌≡◌, ℕ, ◌+◌, ◌*◌, ◌/◌, ◌%◌, ◌<◌, ◌≤◌, Bool, true, false, cond, eqb, ltb, is_some, Ok, Err, sym, refl, ap, ◌∙◌, arith}
use Rattle.std.proofs.lemmas.Bool.{eq-eqb, le-ltb}
use Rattle.planes.specs.declared.refusal.Refusal.TheVariants.{WordUnderWay}
use Rattle.registers.specs.declared.access.Access.{Access}
use Rattle.registers.specs.declared.access.Choice.{Choice}
use Rattle.registers.specs.declared.access.Choice.TheVariants.{Nothing, Control, Source, Mask}
use Rattle.registers.specs.declared.access.Pair.{Pair}
use Rattle.registers.specs.declared.access.Pair.TheVariants.{Zero, One, Two, Three}
use Rattle.registers.specs.declared.cursor.Axis.{Axis}
use Rattle.registers.specs.declared.cursor.Axis.TheVariants.{Across, Down}
use Rattle.registers.specs.Codes.{pair_number}
use Rattle.registers.specs.Accesses.{access_of, address_of, pair_by, choice_by, number_of_axis, number_of_choice, unit_of, Asks}

-- each part by its number, and how large that is
pair_back : (k : Pair) → pair_by (pair_number k) ≡ k
pair_back Zero = refl
pair_back One = refl
pair_back Two = refl
pair_back Three = refl

pair_small : (k : Pair) → pair_number k < 4
pair_small Zero = omega arith
pair_small One = omega arith
pair_small Two = omega arith
pair_small Three = omega arith

choice_back : (k : Choice) → choice_by (number_of_choice k) ≡ k
choice_back Nothing = refl
choice_back Control = refl
choice_back Source = refl
choice_back Mask = refl

choice_small : (k : Choice) → number_of_choice k < 4
choice_small Nothing = omega arith
choice_small Control = omega arith
choice_small Source = omega arith
choice_small Mask = omega arith

axis_back : (k : Axis) → ◌≡◌ {A = Axis} (cond (eqb (number_of_axis k) 1) Down Across) k
axis_back Across = refl
axis_back Down = refl

axis_small : (k : Axis) → number_of_axis k < 2
axis_small Across = omega arith
axis_small Down = omega arith

digit_back : (b : Bool) → eqb (cond b 1 0) 1 ≡ b
digit_back true = refl
digit_back false = refl

digit_small : (b : Bool) → cond b 1 0 < 2
digit_small true = omega arith
digit_small false = omega arith

-- the parts of an address, one above the other
record Parts (a unit place down pair choice update : ℕ) : Type 0 where
  even : a % 2 ≡ 0
  short : a ≤ 0xfffff
  place_is : a / 2 % 1024 ≡ place
  down_is : a / 2048 % 2 ≡ down
  pair_is : a / 4096 % 4 ≡ pair
  choice_is : a / 16384 % 4 ≡ choice
  update_is : a / 65536 % 2 ≡ update
  unit_is : a / 131072 % 8 ≡ unit

parts : (a b c d e f unit place down pair choice update : ℕ) → unit < 8 → place < 1024 → down < 2 → pair < 4 → choice < 4 → update < 2 →
    a ≡ 2 * b → b ≡ place + 1024 * c → c ≡ down + 2 * d → d ≡ pair + 4 * e → e ≡ choice + 4 * f → f ≡ update + 2 * unit → Parts a unit place down pair choice update
parts a b c d e f unit place down pair choice update hu hp hd hr hs ht ab bc cd de ef fu =
    let a2 : a / 2 ≡ b = omega arith in
    let b1 : b / 1024 ≡ c = omega arith in
    let c1 : c / 2 ≡ d = omega arith in
    let d1 : d / 4 ≡ e = omega arith in
    let e1 : e / 4 ≡ f = omega arith in
    let f1 : f / 2 ≡ unit = omega arith in
    let down_at : a / 2048 ≡ c = omega (a2, b1, arith) in
    let pair_at : a / 4096 ≡ d = omega (down_at, c1, arith) in
    let choice_at : a / 16384 ≡ e = omega (pair_at, d1, arith) in
    let update_at : a / 65536 ≡ f = omega (choice_at, e1, arith) in
    let unit_at : a / 131072 ≡ unit = omega (update_at, f1, arith) in
    record {
      even = omega arith;
      short = omega arith;
      place_is = ap (λ (n : ℕ). n % 1024) a2 ∙ omega (arith, bc);
      down_is = ap (λ (n : ℕ). n % 2) down_at ∙ omega (arith, cd);
      pair_is = ap (λ (n : ℕ). n % 4) pair_at ∙ omega (arith, de);
      choice_is = ap (λ (n : ℕ). n % 4) choice_at ∙ omega (arith, ef);
      update_is = ap (λ (n : ℕ). n % 2) update_at ∙ omega (arith, fu);
      unit_is = ap (λ (n : ℕ). n % 8) unit_at ∙ omega arith;
    }

-- a board of that unit reads back the access, unless a word is under way
pub asks : (unit : ℕ) (k : Access) → unit < 8 → k.place < 1024 → Asks unit k (address_of unit k)
unfolding address_of
asks unit k few near r same =
    let a : ℕ = address_of unit k in
    let down : ℕ = number_of_axis k.axis in
    let pair : ℕ = pair_number k.pair in
    let choice : ℕ = number_of_choice k.choice in
    let update : ℕ = cond k.update 1 0 in
    let p : Parts a unit k.place down pair choice update =
    parts a (k.place + 1024 * (down + 2 * (pair + 4 * (choice + 4 * (update + 2 * unit))))) (down + 2 * (pair + 4 * (choice + 4 * (update + 2 * unit)))) (pair + 4 * (choice + 4 * (update + 2 * unit))) (choice + 4 * (update + 2 * unit)) (update + 2 * unit)
    unit k.place down pair choice update few near (axis_small k.axis) (pair_small k.pair) (choice_small k.choice) (digit_small k.update) (omega arith) refl refl refl refl refl in
    let even : eqb (a % 2) 1 ≡ false = ap (λ (n : ℕ). eqb n 1) p.even in
    let short : ltb 0xfffff a ≡ false = le-ltb 0xfffff a p.short in
    let ours : eqb (unit_of a) r.unit ≡ true = eq-eqb (unit_of a) r.unit (p.unit_is ∙ sym same) in
    let axis_is = ap (λ (n : ℕ). cond (eqb n 1) Down Across) p.down_is ∙ axis_back k.axis in
    let pair_is = ap pair_by p.pair_is ∙ pair_back k.pair in
    let choice_is = ap choice_by p.choice_is ∙ choice_back k.choice in
    let update_is = ap (λ (n : ℕ). eqb n 1) p.update_is ∙ digit_back k.update in
    let whole : access_of a ≡ k = λ i. record { place = p.place_is i; axis = axis_is i; pair = pair_is i; choice = choice_is i; update = update_is i } in
    rw (even, short, ours) (ap (λ (q : Access). cond (is_some r.ahead) (Err WordUnderWay) (Ok q)) whole)
