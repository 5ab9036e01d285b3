use Rattle.std.proofs.Common.{◌≡◌, ℕ, ◌+◌, ◌-◌, ◌*◌, ◌/◌, ◌%◌, ◌^◌, ◌<◌, List, get_or, ap, ◌∙◌, inl, inr, arith}
use Rattle.std.proofs.lemmas.Bool.{cases_lt}
use Rattle.words.specs.Bit.{bit}
use Rattle.words.proofs.Bits.{bit_byte_low, bit_byte_high, bit_shr, bit_mod_low}
use Rattle.words.proofs.turning.reverse.Goals as goal

-- both bytes turned round, and each in the other's place
turned : (word high low : ℕ) → low < 256 →
    ((k : ℕ) → k < 8 → bit high k ≡ bit (word % 2 ^ 8) (7 - k)) →
    ((k : ℕ) → k < 8 → bit low k ≡ bit (word / 2 ^ 8) (7 - k)) →
    (k : ℕ) → k < 16 → bit (high * 256 + low) k ≡ bit word (15 - k)
turned word high low small is-high is-low k h =
    elim (cases_lt k 8) [
      | inl a ↦
          let e : 8 + (7 - k) ≡ 15 - k = omega arith in
          bit_byte_low high low k a ∙ is-low k a ∙ bit_shr word 8 (7 - k) ∙ ap (bit word) e
      | inr b ↦
          let e : k ≡ 8 + (k - 8) = omega arith in
          let e' : 7 - (k - 8) ≡ 15 - k = omega arith in
          ap (bit (high * 256 + low)) e ∙ bit_byte_high high low (k - 8) small ∙ is-high (k - 8) (omega arith)
          ∙ bit_mod_low word 8 (7 - (k - 8)) (omega arith) ∙ ap (bit word) e'
    ]

pub returns : goal.returns
returns c k h =
    let high : get_or c.to_be_bytes.result 0 0 ≡ c.args.word / 2 ^ 8 = omega (arith, ap (λ (l : List ℕ). get_or l 0 0) c.to_be_bytes.ensures) in
    let low : get_or c.to_be_bytes.result 1 0 ≡ c.args.word % 2 ^ 8 = ap (λ (l : List ℕ). get_or l 1 0) c.to_be_bytes.ensures in
    ap (λ (n : ℕ). bit n k) c.from_be_bytes.ensures
    ∙ turned c.args.word _ _ c.reverse_byte-2.type_inv
    (λ j l. c.reverse_byte.ensures j l ∙ ap (λ (n : ℕ). bit n (7 - j)) low)
    (λ j l. c.reverse_byte-2.ensures j l ∙ ap (λ (n : ℕ). bit n (7 - j)) high) k h
