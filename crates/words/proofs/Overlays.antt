-- The laws of `overlaid`, and the bytes of words.
-- Assumes nothing.
use Rattle.std.proofs.Common.{◌≡◌, ℕ, zero, suc, ◌+◌, ◌-◌, ◌*◌, ◌/◌, ◌%◌, ◌^◌, ◌<◌, ◌≤◌, Bool, true, false, cond, ◌||◌, eqb, ltb, List, [], ◌∷◌, length, get_or, set, sym, refl, ap, ◌∙◌, ap₂, inl, inr, arith}
use Rattle.std.proofs.lemmas.Bool.{cases_eq, eqb-true, eq-eqb, ne_eqb, lt-ltb}
use Rattle.std.proofs.lemmas.Bool.Decides.{nat_tests}
use Rattle.std.specs.Int.{w16, to_be_bytes}
use borrow.Rule.Slice.PartMut.{put_mid}
use Rattle.words.specs.Bit.{bit, packed, pack}
use Rattle.words.specs.Bytes.{overlaid_from, overlaid, byte_of, half, stored}
use Rattle.words.proofs.Bits.{same_from_bits, packed_lt, bit_packed, bit_shr, bit_mod_low, bit_pack, pack_lt, packed_same}

-- ---- from place i on
choose_same : (p q : Bool) (m n x : ℕ) → p ≡ q → (p ≡ true → m ≡ n) → cond p m x ≡ cond q n x
choose_same true true m n x e same = same refl
choose_same true false m n x e same = cc
choose_same false true m n x e same = cc
choose_same false false m n x e same = refl

same_from : (i : ℕ) (p q : ℕ → Bool) (f g : ℕ → ℕ) (xs : List ℕ) →
    ((j : ℕ) → i ≤ j → j < i + length xs → p j ≡ q j) → ((j : ℕ) → i ≤ j → j < i + length xs → p j ≡ true → f j ≡ g j) →
    overlaid_from i p f xs ≡ overlaid_from i q g xs
unfolding overlaid_from
same_from i p q f g [] here same = refl
same_from i p q f g (x ∷ xs) here same =
    ap₂ ◌∷◌ (choose_same (p i) (q i) (f i) (g i) x (here i (omega arith) (omega arith)) (same i (omega arith) (omega arith)))
    (same_from (suc i) p q f g xs (λ j l h. here j (omega arith) (omega arith)) (λ j l h. same j (omega arith) (omega arith)))

none_from : (i : ℕ) (p : ℕ → Bool) (f : ℕ → ℕ) (xs : List ℕ) → ((j : ℕ) → i ≤ j → p j ≡ false) → overlaid_from i p f xs ≡ xs
unfolding overlaid_from
none_from i p f [] none = refl
none_from i p f (x ∷ xs) none =
    ap₂ ◌∷◌ (ap (λ (b : Bool). cond b (f i) x) (none i (omega arith))) (none_from (suc i) p f xs (λ j l. none j (omega arith)))

choose_more : (p q : Bool) (m x : ℕ) → cond p m (cond q m x) ≡ cond (q || p) m x
choose_more true true m x = refl
choose_more true false m x = refl
choose_more false true m x = refl
choose_more false false m x = refl

more_from : (i : ℕ) (p q : ℕ → Bool) (f : ℕ → ℕ) (xs : List ℕ) → overlaid_from i p f (overlaid_from i q f xs) ≡ overlaid_from i (λ j. q j || p j) f xs
unfolding overlaid_from
more_from i p q f [] = refl
more_from i p q f (x ∷ xs) = ap₂ ◌∷◌ (choose_more (p i) (q i) (f i) x) (more_from (suc i) p q f xs)

set_from : (i k m : ℕ) (f : ℕ → ℕ) (xs : List ℕ) → i + k ≡ m → set xs k (f m) ≡ overlaid_from i (λ j. eqb j m) f xs
unfolding overlaid_from
set_from i k m f [] e = refl
set_from i zero m f (x ∷ xs) e =
    let here : i ≡ m = omega arith in
    ap₂ ◌∷◌ (ap f (sym here) ∙ ap (λ (b : Bool). cond b (f i) x) (sym (eq-eqb i m here))) (sym (none_from (suc i) (λ j. eqb j m) f xs (λ j l. ne_eqb j m (λ q. omega arith))))
set_from i (suc k) m f (x ∷ xs) e =
    ap₂ ◌∷◌ (ap (λ (b : Bool). cond b (f i) x) (sym (ne_eqb i m (λ q. omega arith)))) (set_from (suc i) k m f xs (omega arith))

-- ---- a whole buffer
pub overlaid_same : (p q : ℕ → Bool) (f g : ℕ → ℕ) (xs : List ℕ) → ((j : ℕ) → j < length xs → p j ≡ q j) → ((j : ℕ) → j < length xs → p j ≡ true → f j ≡ g j) → overlaid p f xs ≡ overlaid q g xs
unfolding overlaid
overlaid_same p q f g xs here same = same_from 0 p q f g xs (λ j _ h. here j (omega arith)) (λ j _ h. same j (omega arith))

-- nothing is replaced
pub overlaid_none : (p : ℕ → Bool) (f : ℕ → ℕ) (xs : List ℕ) → ((j : ℕ) → p j ≡ false) → overlaid p f xs ≡ xs
unfolding overlaid
overlaid_none p f xs none = none_from 0 p f xs (λ j _. none j)

-- two parts are one
pub overlaid_more : (p q : ℕ → Bool) (f : ℕ → ℕ) (xs : List ℕ) → overlaid p f (overlaid q f xs) ≡ overlaid (λ j. q j || p j) f xs
unfolding overlaid
overlaid_more p q f xs = more_from 0 p q f xs

overlaid_set : (k : ℕ) (f : ℕ → ℕ) (xs : List ℕ) → set xs k (f k) ≡ overlaid (λ j. eqb j k) f xs
unfolding overlaid
overlaid_set k f xs = set_from 0 k k f xs (omega arith)

length_from : (i : ℕ) (p : ℕ → Bool) (f : ℕ → ℕ) (xs : List ℕ) → length (overlaid_from i p f xs) ≡ length xs
unfolding overlaid_from
length_from i p f [] = refl
length_from i p f (x ∷ xs) = ap suc (length_from (suc i) p f xs)

pub length_overlaid : (p : ℕ → Bool) (f : ℕ → ℕ) (xs : List ℕ) → length (overlaid p f xs) ≡ length xs
unfolding overlaid
length_overlaid p f xs = length_from 0 p f xs

-- a byte that is replaced
at_from : (i k m : ℕ) (p : ℕ → Bool) (f : ℕ → ℕ) (xs : List ℕ) → i + k ≡ m → k < length xs → p m ≡ true → get_or (overlaid_from i p f xs) k 0 ≡ f m
unfolding overlaid_from
at_from i k m p f [] e l t = let none : ⊥ = omega arith in absurd none
at_from i zero m p f (x ∷ xs) e l t = let here : i ≡ m = omega arith in ap (λ (n : ℕ). cond (p n) (f n) x) here ∙ ap (λ (b : Bool). cond b (f m) x) t
at_from i (suc k) m p f (x ∷ xs) e l t = at_from (suc i) k m p f xs (omega arith) (omega arith) t

pub overlaid_at : (p : ℕ → Bool) (f : ℕ → ℕ) (xs : List ℕ) (k : ℕ) → k < length xs → p k ≡ true → get_or (overlaid p f xs) k 0 ≡ f k
unfolding overlaid
overlaid_at p f xs k l t = at_from 0 k k p f xs (omega arith) l t

-- ---- one word
halves : (at word : ℕ) → (half word (2 * at) ≡ word / 256) × (half word (2 * at + 1) ≡ word % 256)
halves at word =
    let even : 2 * at % 2 ≡ 0 = omega arith in
    let odd : (2 * at + 1) % 2 ≡ 1 = omega arith in (
      ap (λ (m : ℕ). cond (eqb m 0) (word / 256) (word % 256)) even,
      ap (λ (m : ℕ). cond (eqb m 0) (word / 256) (word % 256)) odd,
    )

both_halves : (at j : ℕ) → (eqb j (2 * at) || eqb j (2 * at + 1)) ≡ eqb (j / 2) at
both_halves at j = grind (arith, nat_tests)

pub store_sets : (at word : ℕ) (xs : List ℕ) → at < length xs / 2 → set (set xs (2 * at) (word / 256)) (2 * at + 1) (word % 256) ≡ stored at word xs
store_sets at word xs room =
    let f : ℕ → ℕ = half word in
    let (high, low) = halves at word in
    ap₂ (λ (a b : ℕ). set (set xs (2 * at) a) (2 * at + 1) b) (sym high) (sym low)
    ∙ overlaid_set (2 * at + 1) f (set xs (2 * at) (f (2 * at)))
    ∙ ap (overlaid (λ j. eqb j (2 * at + 1)) f) (overlaid_set (2 * at) f xs)
    ∙ overlaid_more (λ j. eqb j (2 * at + 1)) (λ j. eqb j (2 * at)) f xs
    ∙ overlaid_same (λ j. eqb j (2 * at) || eqb j (2 * at + 1)) (λ j. eqb (j / 2) at) f f xs (λ j _. both_halves at j) (λ j _ _. refl)
    ∙ ap (λ (b : Bool). cond b (overlaid (λ i. eqb (i / 2) at) f xs) xs) (sym (lt-ltb at (length xs / 2) room))

two_set : (xs : List ℕ) (k a b : ℕ) → k + 1 < length xs → put_mid k 2 xs (a ∷ b ∷ []) ≡ set (set xs k a) (k + 1) b
two_set [] k a b h = let none : ⊥ = omega arith in absurd none
two_set (x ∷ []) k a b h = let none : ⊥ = omega arith in absurd none
two_set (x ∷ y ∷ xs) zero a b h = refl
two_set (x ∷ y ∷ xs) (suc k) a b h =
    let up : suc (k + 1) ≡ suc k + 1 = omega arith in
    ap (λ (l : List ℕ). x ∷ l) (two_set (y ∷ xs) k a b (omega arith)) ∙ ap (λ (n : ℕ). set (x ∷ set (y ∷ xs) k a) n b) up

-- the two bytes of a word, put in at once
pub store_part : (at word n : ℕ) (xs part : List ℕ) → at < length xs / 2 → word < 2 ^ 16 → n ≡ 2 → part ≡ to_be_bytes w16 word → put_mid (2 * at) n xs part ≡ stored at word xs
store_part at word n xs part room small two is =
    let high : word / 256 % 256 ≡ word / 256 = omega arith in
    ap₂ (λ (m : ℕ) (l : List ℕ). put_mid (2 * at) m xs l) two is
    ∙ ap (λ (a : ℕ). put_mid (2 * at) 2 xs (a ∷ word % 256 ∷ [])) high
    ∙ two_set xs (2 * at) (word / 256) (word % 256) (omega arith) ∙ store_sets at word xs room

-- a word that is stored beside what was stored before
pub store_more : (at word : ℕ) (p q : ℕ → Bool) (f : ℕ → ℕ) (xs : List ℕ) → at < length xs / 2 →
    ((i : ℕ) → i / 2 ≡ at → half word i ≡ f i) → ((i : ℕ) → (p i || eqb (i / 2) at) ≡ q i) → stored at word (overlaid p f xs) ≡ overlaid q f xs
store_more at word p q f xs room is whole =
    let ys : List ℕ = overlaid p f xs in
    let one : ℕ → Bool = λ i. eqb (i / 2) at in
    ap (λ (n : ℕ). cond (ltb at (n / 2)) (overlaid one (half word) ys) ys) (length_overlaid p f xs)
    ∙ ap (λ (b : Bool). cond b (overlaid one (half word) ys) ys) (lt-ltb at (length xs / 2) room)
    ∙ overlaid_same one one (half word) f ys (λ i _. refl) (λ i _ t. is i (eqb-true (i / 2) at t))
    ∙ overlaid_more one p f xs
    ∙ overlaid_same (λ i. p i || one i) q f f xs (λ i _. whole i) (λ i _ _. refl)

-- the two bytes of a word by its bits
module _ (row : ℕ → Bool) where
  high_byte : pack row / 256 ≡ packed 8 row
  high_byte =
      let small = pack_lt row in
      same_from_bits 8 (pack row / 256) (packed 8 row) (omega arith) (packed_lt 8 row)
      (λ k h.
      let e : 8 + k ≡ 15 - (7 - k) = omega arith in
      bit_shr (pack row) 8 k ∙ ap (bit (pack row)) e ∙ bit_pack row (7 - k) (omega arith) ∙ sym (bit_packed 8 row k (7 - k) (omega arith)))

  low_byte : pack row % 256 ≡ packed 8 (λ j. row (8 + j))
  low_byte =
      same_from_bits 8 (pack row % 256) (packed 8 (λ j. row (8 + j))) (omega arith) (packed_lt 8 (λ j. row (8 + j)))
      (λ k h.
      let e : k ≡ 15 - (8 + (7 - k)) = omega arith in
      bit_mod_low (pack row) 8 k h ∙ ap (bit (pack row)) e ∙ bit_pack row (8 + (7 - k)) (omega arith) ∙ sym (bit_packed 8 (λ j. row (8 + j)) k (7 - k) (omega arith)))

-- a byte of word w of a row of bits is a byte of the row
pub half_row : (row : ℕ → Bool) (w i : ℕ) → i / 2 ≡ w → half (pack (λ j. row (16 * w + j))) i ≡ byte_of row i
unfolding byte_of
half_row row w i e =
    elim (cases_eq (i % 2) 0) [
      | inl even ↦
          let at : 16 * w ≡ 8 * i = omega arith in
          ap (λ (b : Bool). cond b (pack (λ j. row (16 * w + j)) / 256) (pack (λ j. row (16 * w + j)) % 256)) (eq-eqb (i % 2) 0 even)
          ∙ high_byte (λ j. row (16 * w + j)) ∙ ap (λ (n : ℕ). packed 8 (λ j. row (n + j))) at
      | inr odd ↦
          ap (λ (b : Bool). cond b (pack (λ j. row (16 * w + j)) / 256) (pack (λ j. row (16 * w + j)) % 256)) (ne_eqb (i % 2) 0 odd)
          ∙ low_byte (λ j. row (16 * w + j))
          ∙ packed_same 8 (λ j. row (16 * w + (8 + j))) (λ j. row (8 * i + j)) (λ j _. let at : 16 * w + (8 + j) ≡ 8 * i + j = omega arith in ap row at)
    ]

-- bit i of a row, by its byte
pub byte_bit : (row : ℕ → Bool) (i : ℕ) → bit (byte_of row (i / 8)) (7 - i % 8) ≡ row i
unfolding byte_of
byte_bit row i =
    let whole : 8 * (i / 8) + i % 8 ≡ i = omega arith in
    bit_packed 8 (λ j. row (8 * (i / 8) + j)) (7 - i % 8) (i % 8) (omega arith) ∙ ap row whole
