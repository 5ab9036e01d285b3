-- A job is its fields' bytes, one after the other, and then what is cut off; and it can be read in no other way.
-- Assumes nothing.
use Rattle.std.proofs.Common.{◌≡◌, ℕ, zero, suc, ◌+◌, ◌*◌, ◌/◌, ◌%◌, ◌<◌, ◌≤◌, Bool, true, false, cond, ltb, List, [], ◌∷◌, ◌++◌, length, get_or, take, drop, sym, refl, ap, ◌∙◌, ap₂, append_assoc, arith, Fits, w8}
use Rattle.std.proofs.lemmas.List.{length-take, length-append, take-append-drop, take_at, drop_at}
use Rattle.std.proofs.lemmas.Bool.{ltb-false, ltb-true, le-ltb}
use Rattle.std.proofs.lemmas.Bool.Decides.{nat_tests}
use Rattle.jobs.specs.Format.{Field, Parsed, Apart, cut_off, bytes_of, headed, stumped, parsed}
use Rattle.jobs.proofs.Walk.{skip, parsed_cut}

abbrev Small : List ℕ → Type 0
Small bs = (i : ℕ) → get_or bs i 0 < 256

-- the two bytes of a length
high_byte : (a b n : ℕ) → b < 256 → n ≡ 256 * a + b → n / 256 ≡ a
high_byte a b n h e = omega arith

low_byte : (a b n : ℕ) → b < 256 → n ≡ 256 * a + b → n % 256 ≡ b
low_byte a b n h e = omega arith

-- ---- what is read makes up the job
whole_at : (k : ℕ) (bs : List ℕ) → k ≤ length bs → Small bs → drop k bs ≡ bytes_of (parsed k bs).fields ++ (parsed k bs).stump
whole_at zero [] h small = refl
whole_at zero (t ∷ []) h small = refl
whole_at zero (t ∷ a ∷ []) h small = refl
whole_at zero (t ∷ a ∷ b ∷ rest) h small = by (ltb (length rest) (256 * a + b)) refl (λ fits. whole_at (256 * a + b) rest fits (λ i. small (suc (suc (suc i)))))
  where
    by : (q : Bool) → ltb (length rest) (256 * a + b) ≡ q →
        (256 * a + b ≤ length rest → drop (256 * a + b) rest ≡ bytes_of (parsed (256 * a + b) rest).fields ++ (parsed (256 * a + b) rest).stump) →
        ◌≡◌ {A = List ℕ} (t ∷ a ∷ b ∷ rest)
        (bytes_of (cond q (stumped (t ∷ a ∷ b ∷ rest)) (headed (record { tag = t; payload = take (256 * a + b) rest }) (parsed (256 * a + b) rest))).fields
        ++ (cond q (stumped (t ∷ a ∷ b ∷ rest)) (headed (record { tag = t; payload = take (256 * a + b) rest }) (parsed (256 * a + b) rest))).stump)
    by true is more = refl
    by false is more =
        let n : ℕ = 256 * a + b in
        let fits : n ≤ length rest = ltb-false (length rest) n is in
        let long : length (take n rest) ≡ n = length-take n rest ∙ omega arith in
        let body = sym (take-append-drop n rest) ∙ ap (λ (xs : List ℕ). take n rest ++ xs) (more fits) ∙ sym (append_assoc (take n rest) (bytes_of (parsed n rest).fields) (parsed n rest).stump) in
        λ i. t ∷ (sym (high_byte a b (length (take n rest)) (small 2) long) i ∷ (sym (low_byte a b (length (take n rest)) (small 2) long) i ∷ body i))
whole_at (suc k) [] h small = absurd (omega arith)
whole_at (suc k) (b ∷ bs) h small = whole_at k bs (omega arith) (λ i. small (suc i))

cut_at : (k : ℕ) (bs : List ℕ) → k ≤ length bs → 0 < length (parsed k bs).stump → cut_off (parsed k bs).stump ≡ true
cut_at zero [] h some = absurd (omega arith)
cut_at zero (t ∷ []) h some = refl
cut_at zero (t ∷ a ∷ []) h some = refl
cut_at zero (t ∷ a ∷ b ∷ rest) h some = by (ltb (length rest) (256 * a + b)) refl (λ fits. cut_at (256 * a + b) rest fits) some
  where
    by : (q : Bool) → ltb (length rest) (256 * a + b) ≡ q →
        (256 * a + b ≤ length rest → 0 < length (parsed (256 * a + b) rest).stump → cut_off (parsed (256 * a + b) rest).stump ≡ true) →
        0 < length (cond q (stumped (t ∷ a ∷ b ∷ rest)) (headed (record { tag = t; payload = take (256 * a + b) rest }) (parsed (256 * a + b) rest))).stump →
        cut_off (cond q (stumped (t ∷ a ∷ b ∷ rest)) (headed (record { tag = t; payload = take (256 * a + b) rest }) (parsed (256 * a + b) rest))).stump ≡ true
    by true is more some = let short : length rest < 256 * a + b = ltb-true (length rest) (256 * a + b) is in grind (arith, nat_tests)
    by false is more some = more (ltb-false (length rest) (256 * a + b) is) some
cut_at (suc k) [] h some = absurd (omega arith)
cut_at (suc k) (b ∷ bs) h some = cut_at k bs (omega arith) some

-- ---- and in no other way
read_back : (fs : List Field) (stump : List ℕ) → (0 < length stump → cut_off stump ≡ true) → parsed 0 (bytes_of fs ++ stump) ≡ record { fields = fs; stump = stump }
read_back [] [] cut = refl
read_back [] (b ∷ bs) cut = parsed_cut (b ∷ bs) (cut (omega arith))
read_back (f ∷ fs) stump cut =
    let n : ℕ = length f.payload in
    let rest : List ℕ = (f.payload ++ bytes_of fs) ++ stump in
    let size : 256 * (n / 256) + n % 256 ≡ n = omega arith in
    let split : rest ≡ f.payload ++ (bytes_of fs ++ stump) = append_assoc f.payload (bytes_of fs) stump in
    let room : n ≤ length rest = omega (arith, ap length split, length-append f.payload (bytes_of fs ++ stump)) in
    let whole : List ℕ = f.tag ∷ n / 256 ∷ n % 256 ∷ rest in
    let front : take n rest ≡ f.payload = ap (take n) split ∙ take_at f.payload (bytes_of fs ++ stump) n refl in
    let back : drop n rest ≡ bytes_of fs ++ stump = ap (drop n) split ∙ drop_at f.payload (bytes_of fs ++ stump) n refl in
    ap (λ (m : ℕ). cond (ltb (length rest) m) (stumped whole) (headed (record { tag = f.tag; payload = take m rest }) (parsed m rest))) size
    ∙ ap (λ (q : Bool). cond q (stumped whole) (headed (record { tag = f.tag; payload = take n rest }) (parsed n rest))) (le-ltb (length rest) n room)
    ∙ ap₂ (λ (xs : List ℕ) (p : Parsed). headed (record { tag = f.tag; payload = xs }) p) front (skip n rest room ∙ ap (parsed 0) back ∙ read_back fs stump cut)

pub apart : (job : List ℕ) → ((i : ℕ) → Fits w8 (get_or job i 0)) → Apart job
apart job fits = record {
  reads = record { whole = whole_at 0 job (omega arith) (λ i. (fits i).fits); cut = cut_at 0 job (omega arith) };
  alone = λ p r. sym (read_back p.fields p.stump r.cut) ∙ ap (parsed 0) (sym r.whole);
}
