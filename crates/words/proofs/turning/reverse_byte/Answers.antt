use Rattle.std.proofs.Common.{◌≡◌, ℕ, ◌-◌, ◌<◌, map, get_or, ap, ◌∙◌, zero-add, arith}
use Rattle.std.proofs.lemmas.List.FromFn.{get_or-map-range_with_len}
use Rattle.std.specs.List.{range_with_len}
use Rattle.words.specs.Bit.{bit, packed}
use Rattle.words.proofs.Bits.{bit_packed}
use Rattle.words.proofs.turning.reverse_byte.Goals as goal

-- The table is the list of the numbers below 256, each with its bits from the lowest on: antt computes that list, and it is the table.
pub returns : goal.returns
unfolding bit packed
returns c k h =
    let b : ℕ = c.from.result in
    let within : b < 256 = omega arith in
    let rule : bit (get_or (map (λ (n : ℕ). packed 8 (bit n)) (range_with_len 0 256)) b 0) k ≡ bit b (7 - k) =
    ap (λ (x : ℕ). bit x k) (get_or-map-range_with_len (λ (n : ℕ). packed 8 (bit n)) 0 256 b b 0 within (zero-add b)) ∙ bit_packed 8 (bit b) k (7 - k) (omega arith) in
    rule ∙ ap (λ (n : ℕ). bit n (7 - k)) c.from.ensures
