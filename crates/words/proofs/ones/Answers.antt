use Rattle.std.proofs.Common.{◌≡◌, ℕ, ◌-◌, ◌/◌, ◌^◌, ◌<◌, ◌≤◌, Some, None, Option, sym, ap, ◌∙◌, pow_mono, arith}
use Rattle.std.specs.Option.{SomeIff, unwrap_or}
use native.Mathlib.Nat.{div-eq_of_lt}
use Rattle.words.specs.Bit.{bit}
use Rattle.words.proofs.Whole.{leading}
use Rattle.words.proofs.ones.Goals as goal

-- a shift by any number of places
shifted : (o : Option ℕ) (n r : ℕ) → n < 2 ^ 16 → SomeIff o (r < 16) (n / 2 ^ r) → unwrap_or o 0 ≡ n / 2 ^ r
shifted None n r small is =
    let wide : 16 ≤ r = omega arith in
    let far : n < 2 ^ r = omega (arith, pow_mono wide) in
    sym (div-eq_of_lt far)
shifted (Some x) n r small is = is.1

pub returns : goal.returns
returns c k h =
    let all : c.unwrap_or.result ≡ 65535 / 2 ^ c.args.count = c.unwrap_or.ensures ∙ shifted c.checked_shr.result 65535 c.from.result (omega arith) c.checked_shr.ensures ∙ ap (λ (r : ℕ). 65535 / 2 ^ r) c.from.ensures in
    ap (λ (n : ℕ). bit (65535 - n) (15 - k)) all ∙ leading c.args.count k h
