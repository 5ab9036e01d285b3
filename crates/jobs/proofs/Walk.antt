-- One field of a job, and what follows it.
-- Assumes nothing.
use Rattle.std.proofs.Common.{◌≡◌, ℕ, zero, suc, ◌+◌, ◌-◌, ◌*◌, ◌<◌, ◌≤◌, Bool, true, false, cond, List, [], ◌∷◌, length, get_or, take, drop, Ok, Err, Result, sym, refl, ap, ◌∙◌, arith}
use Rattle.std.proofs.lemmas.List.{length-take, length-drop, take_rest}
use Rattle.std.proofs.lemmas.Bool.{true≢false, le-ltb, lt-ltb}
use Rattle.std.proofs.lemmas.Bool.Decides.{nat_tests}
use Rattle.planes.specs.declared.refusal.Refusal.{Refusal}
use Rattle.planes.specs.declared.refusal.Refusal.TheVariants.{Truncated}
use Rattle.jobs.specs.declared.fault.Spot.{Spot}
use Rattle.jobs.specs.declared.task.Task.{Task}
use Rattle.jobs.specs.Format.{Field, payload_size, cut_off, parsed, headed, stumped}
use Rattle.jobs.specs.Faults.{past}
use Rattle.jobs.specs.Tasks.{decoded}
use Rattle.jobs.specs.Walking.{with_size, first_of, Takes}

-- to read past k bytes is to read what follows them
pub skip : (k : ℕ) (bs : List ℕ) → k ≤ length bs → parsed k bs ≡ parsed 0 (drop k bs)
skip zero bs h = refl
skip (suc k) [] h = absurd (omega arith)
skip (suc k) (b ∷ bs) h = skip k bs (omega arith)

-- ---- the first field
abbrev field_of : List ℕ → Field
field_of bs = record { tag = get_or bs 0 0; payload = take (payload_size bs) (drop 3 bs) }

-- how long a job is whose first field is whole
whole : (bs : List ℕ) → cut_off bs ≡ false → 3 + payload_size bs ≤ length bs
whole bs e = grind (arith, nat_tests)

parsed_whole : (bs : List ℕ) → cut_off bs ≡ false → parsed 0 bs ≡ headed (field_of bs) (parsed 0 (drop (3 + payload_size bs) bs))
parsed_whole [] e = absurd (true≢false e)
parsed_whole (t ∷ []) e = absurd (true≢false e)
parsed_whole (t ∷ a ∷ []) e = absurd (true≢false e)
parsed_whole (t ∷ a ∷ b ∷ rest) e =
    let fits : 256 * a + b ≤ length rest = omega (arith, whole (t ∷ a ∷ b ∷ rest) e) in
    let f : Field = record { tag = t; payload = take (256 * a + b) rest } in
    let more : drop (256 * a + b) rest ≡ drop (3 + (256 * a + b)) (t ∷ a ∷ b ∷ rest) = simp three_more in
    ap (λ (q : Bool). cond q (stumped (t ∷ a ∷ b ∷ rest)) (headed f (parsed (256 * a + b) rest))) (le-ltb (length rest) (256 * a + b) fits)
    ∙ ap (headed f) (skip (256 * a + b) rest fits ∙ ap (parsed 0) more)
  where
    three_more : (n : ℕ) → 3 + n ≡ suc (suc (suc n))
    three_more n = omega arith

pub parsed_cut : (bs : List ℕ) → cut_off bs ≡ true → parsed 0 bs ≡ stumped bs
parsed_cut [] e = refl
parsed_cut (t ∷ []) e = refl
parsed_cut (t ∷ a ∷ []) e = refl
parsed_cut (t ∷ a ∷ b ∷ rest) e =
    let short : length rest < 256 * a + b = grind (arith, nat_tests) in
    ap (λ (q : Bool). cond q (stumped (t ∷ a ∷ b ∷ rest)) (headed (record { tag = t; payload = take (256 * a + b) rest }) (parsed (256 * a + b) rest))) (lt-ltb (length rest) (256 * a + b) short)

payload_length : (bs : List ℕ) → cut_off bs ≡ false → length (take (payload_size bs) (drop 3 bs)) ≡ payload_size bs
payload_length bs e = let fits = whole bs e in simp (length-take, length-drop) (omega arith)

-- ---- the first field, as it is read
-- one of two answers says which task it has, and how long it is
parts : (j k : Task) (m n : ℕ) → ◌≡◌ {A = Result (Task × ℕ) Refusal} (Ok (j, m)) (Ok (k, n)) → (j ≡ k) × (m ≡ n)
parts j k m n e = let both : ◌≡◌ {A = Task × ℕ} (j, m) (k, n) = cc in (ap (λ (z : Task × ℕ). z.0) both, ap (λ (z : Task × ℕ). z.1) both)

pub first_taken : (bs : List ℕ) (s : Spot) (k : Task) (n : ℕ) → first_of bs ≡ Ok (k, n) → Takes s bs k (past n s) (take (length bs - n) (drop n bs))
first_taken bs s k n e = by (cut_off bs) (decoded (field_of bs).tag (field_of bs).payload) refl refl e
  where
    by : (b : Bool) (d : Result Task Refusal) → cut_off bs ≡ b → decoded (field_of bs).tag (field_of bs).payload ≡ d →
        ◌≡◌ {A = Result (Task × ℕ) Refusal} (cond b (Err Truncated) (with_size (3 + payload_size bs) d)) (Ok (k, n)) →
        Takes s bs k (past n s) (take (length bs - n) (drop n bs))
    by true d cut is e = absurd (cc)
    by false (Err x) cut is e = absurd (cc)
    by false (Ok j) cut is e =
        let (same, long) = parts j k (3 + payload_size bs) n e in
        record {
          field = field_of bs;
          reads = parsed_whole bs cut ∙ ap (λ (m : ℕ). headed (field_of bs) (parsed 0 (drop m bs))) long ∙ ap (λ (xs : List ℕ). headed (field_of bs) (parsed 0 xs)) (sym (take_rest bs n));
          asks = is ∙ ap Ok same;
          moves = ap (λ (m : ℕ). past m s) (sym long ∙ ap (λ (m : ℕ). 3 + m) (sym (payload_length bs cut)));
        }
