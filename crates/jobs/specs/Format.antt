-- The bytes of a job: a field is a tag, a length of two bytes, the high one first, and a payload of that length.
use Rattle.std.specs.Prelude.{◌≡◌, ℕ, zero, suc, ◌+◌, ◌*◌, ◌/◌, ◌%◌, ◌<◌, Bool, true, cond, ◌||◌, List, [], ◌∷◌, ◌++◌, length, take, nat_lt, slice_index}

pub record Field : Type 0 where
  pub tag : ℕ
  pub payload : List ℕ

-- a number of two bytes
abbrev pub number_at : List ℕ → ℕ → ℕ
number_at bytes i = 256 * slice_index bytes i + slice_index bytes (i + 1)

-- the length that the first field says
abbrev pub payload_size : List ℕ → ℕ
payload_size bytes = number_at bytes 1

-- whether its head or its payload runs past the end
abbrev pub cut_off : List ℕ → Bool
cut_off bytes = nat_lt (length bytes) 3 || nat_lt (length bytes) (3 + payload_size bytes)

-- the bytes of fields, one after the other
abbrev pub bytes_of : List Field → List ℕ
bytes_of [] = []
bytes_of (f ∷ fs) = f.tag ∷ length f.payload / 256 ∷ length f.payload % 256 ∷ (f.payload ++ bytes_of fs)

-- a job taken apart: its fields, and what is left where the next one runs past the end
pub record Parsed : Type 0 where
  pub fields : List Field
  pub stump : List ℕ

pub record Reads (job : List ℕ) (p : Parsed) : Type 0 where
  pub whole : job ≡ bytes_of p.fields ++ p.stump
  pub cut : 0 < length p.stump → cut_off p.stump ≡ true

abbrev pub headed : Field → Parsed → Parsed
headed f p = record { fields = f ∷ p.fields; stump = p.stump }

abbrev pub stumped : List ℕ → Parsed
stumped bytes = record { fields = []; stump = bytes }

-- the fields of what follows k bytes
abbrev pub parsed : ℕ → List ℕ → Parsed
parsed zero [] = stumped []
parsed zero (t ∷ []) = stumped (t ∷ [])
parsed zero (t ∷ a ∷ []) = stumped (t ∷ a ∷ [])
parsed zero (t ∷ a ∷ b ∷ rest) =
    cond (nat_lt (length rest) (256 * a + b)) (stumped (t ∷ a ∷ b ∷ rest))
    (headed (record { tag = t; payload = take (256 * a + b) rest }) (parsed (256 * a + b) rest))
parsed (suc k) [] = stumped []
parsed (suc k) (b ∷ rest) = parsed k rest

-- the law of `parsed`: it takes a job apart, and there is no other way
pub record Apart (job : List ℕ) : Type 0 where
  pub reads : Reads job (parsed 0 job)
  pub alone : (p : Parsed) → Reads job p → p ≡ parsed 0 job
