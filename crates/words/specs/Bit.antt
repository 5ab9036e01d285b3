-- The bits of a number, and numbers made of bits.
use Rattle.std.specs.Prelude.{ℕ, zero, suc, ◌+◌, ◌-◌, ◌*◌, ◌/◌, ◌%◌, ◌^◌, Bool, cond, ◌&&◌, ◌==◌, nat_le, nat_lt}

-- bit k of n
unfoldable pub bit : ℕ → ℕ → Bool
bit n k = n / 2 ^ k % 2 == 1

-- the number of n bits whose bits from the left are f 0, f 1, up to f (n - 1)
unfoldable pub packed : ℕ → (ℕ → Bool) → ℕ
packed zero f = 0
packed (suc n) f = 2 * packed n f + cond (f n) 1 0

-- the word of sixteen bits whose bit 15 - i is f i
unfoldable pub pack : (ℕ → Bool) → ℕ
pack f = packed 16 f

-- bit i, from the left, of the thirty-two bits of two words side by side
unfoldable pub across : ℕ → ℕ → ℕ → Bool
across left right i = cond (nat_lt i 16) (bit left (15 - i)) (bit right (31 - i))

-- bit i, from the left, of a word that begins at place s, with zeros around it
unfoldable pub placed : (value s i : ℕ) → Bool
placed value s i = (nat_le s i && nat_lt i (s + 16)) && bit value (15 - (i - s))

-- the place in a code of eight bits that a mask bit, a source bit and the stitch choose
abbrev pub index : Bool → Bool → Bool → ℕ
index m s d = 4 * cond m 1 0 + 2 * cond s 1 0 + cond d 1 0
