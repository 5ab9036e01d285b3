-- Bytes of a buffer that are replaced.
use Rattle.std.specs.Prelude.{ℕ, suc, ◌+◌, ◌*◌, ◌/◌, ◌%◌, Bool, cond, List, [], ◌∷◌, length, ◌==◌, nat_eq, nat_lt}
use Rattle.words.specs.Bit.{packed}

-- the bytes of a buffer from place i on: those at places where `here` holds are f's, and the others as they were
unfoldable pub overlaid_from : ℕ → (here : ℕ → Bool) (f : ℕ → ℕ) → List ℕ → List ℕ
overlaid_from i here f [] = []
overlaid_from i here f (b ∷ rest) = cond (here i) (f i) b ∷ overlaid_from (suc i) here f rest

-- a whole buffer: byte i is f i where `here` holds of i, and as it was elsewhere
unfoldable pub overlaid : (here : ℕ → Bool) (f : ℕ → ℕ) → List ℕ → List ℕ
overlaid here f bytes = overlaid_from 0 here f bytes

-- byte k of a row of bits, eight to a byte, the first of them in bit 7
unfoldable pub byte_of : (ℕ → Bool) → ℕ → ℕ
byte_of row k = packed 8 (λ j. row (8 * k + j))

-- the byte of a word that stands at place i: the high one at an even place, the low one at an odd one
abbrev pub half : ℕ → ℕ → ℕ
half word i = cond (i % 2 == 0) (word / 256) (word % 256)

-- word `at` of a buffer, two bytes to a word, is replaced; a word that the buffer does not hold whole is left out
abbrev pub stored : (at word : ℕ) → List ℕ → List ℕ
stored at word bytes = cond (nat_lt at (length bytes / 2)) (overlaid (λ i. nat_eq (i / 2) at) (half word) bytes) bytes
