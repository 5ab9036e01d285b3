-- What an address asks for, and what an access does to the registers.
use Rattle.std.specs.Prelude.{◌≡◌, ℕ, ◌+◌, ◌-◌, ◌*◌, ◌/◌, ◌%◌, Bool, true, false, cond, ◌&&◌, is_some, Some, None, Ok, Err, Option, Result, ◌==◌, nat_lt}
use Rattle.words.specs.Bit.{bit, pack}
use Rattle.planes.specs.declared.refusal.Refusal.{Refusal}
use Rattle.planes.specs.declared.refusal.Refusal.TheVariants.{BadAddress, OtherUnit, WordUnderWay}
use Rattle.registers.specs.declared.access.Access.{Access}
use Rattle.registers.specs.declared.access.Choice.{Choice}
use Rattle.registers.specs.declared.access.Choice.TheVariants.{Nothing, Control, Source, Mask}
use Rattle.registers.specs.declared.access.Pair.{Pair}
use Rattle.registers.specs.declared.access.Pair.TheVariants.{Zero, One, Two, Three}
use Rattle.registers.specs.declared.cursor.Axis.{Axis}
use Rattle.registers.specs.declared.cursor.Axis.TheVariants.{Across, Down}
use Rattle.registers.specs.Codes.{decoded, pair_number, moved}
use Rattle.registers.specs.State.{Regs, with_source, with_mask, with_function, with_width, with_flags, with_cursors}

-- ---- what an address says
abbrev pub pair_by : ℕ → Pair
pair_by n = cond (n == 0) Zero (cond (n == 1) One (cond (n == 2) Two Three))

abbrev pub choice_by : ℕ → Choice
choice_by n = cond (n == 0) Nothing (cond (n == 1) Control (cond (n == 2) Source Mask))

-- A1 to A10 are the coordinate, A11 says which, A12 and A13 the pair, A14 and A15 the register, A16 whether stitches are updated
abbrev pub access_of : ℕ → Access
access_of a = record {
  place = a / 2 % 1024;
  axis = cond (a / 2048 % 2 == 1) Down Across;
  pair = pair_by (a / 4096 % 4);
  choice = choice_by (a / 16384 % 4);
  update = (a / 65536 % 2 == 1);
}

-- A17 to A19
abbrev pub unit_of : ℕ → ℕ
unit_of a = a / 131072 % 8

-- the access that an address asks of a unit, or the first refusal that fits
abbrev pub addressed : (unit address : ℕ) → Result Access Refusal
addressed unit a =
    cond (a % 2 == 1) (Err BadAddress)
    (cond (nat_lt 0xfffff a) (Err BadAddress)
    (cond (unit_of a == unit) (Ok (access_of a)) (Err OtherUnit)))

-- no access is taken while a word is under way
abbrev pub unless_busy : (busy : Bool) → Result Access Refusal → Result Access Refusal
unless_busy busy (Ok k) = cond busy (Err WordUnderWay) (Ok k)
unless_busy busy (Err e) = Err e

abbrev pub admitted : ℕ → Regs → Result Access Refusal
admitted a r = unless_busy (is_some r.ahead) (addressed r.unit a)

-- ---- and the other way: the address of an access
abbrev pub number_of_axis : Axis → ℕ
number_of_axis Across = 0
number_of_axis Down = 1

abbrev pub number_of_choice : Choice → ℕ
number_of_choice Nothing = 0
number_of_choice Control = 1
number_of_choice Source = 2
number_of_choice Mask = 3

unfoldable pub address_of : (unit : ℕ) → Access → ℕ
address_of unit k =
    2 * (k.place % 1024) + 2048 * number_of_axis k.axis + 4096 * pair_number k.pair + 16384 * number_of_choice k.choice + 65536 * cond k.update 1 0 + 131072 * unit

-- a board of that unit reads the access back, unless a word is under way
abbrev pub Asks : (unit : ℕ) → Access → (address : ℕ) → Type 0
Asks unit k a = (r : Regs) → r.unit ≡ unit → admitted a r ≡ cond (is_some r.ahead) (Err WordUnderWay) (Ok k)

-- ---- what an access does
-- one coordinate of one pair
abbrev pub pointed : Access → Regs → Regs
pointed k r = with_cursors (λ i. cond (i == pair_number k.pair) (moved k.axis k.place (r.cursors i)) (r.cursors i)) r

-- a control word goes where the low two bits of the coordinate say
abbrev pub controlled : (place value : ℕ) → Regs → Regs
controlled v n r =
    cond (v % 4 == 0) (with_function (n % 256) r)
    (cond (v % 4 == 1) (with_width (decoded n) r)
    (cond (v % 4 == 2) (with_flags (n / 256) r.flag r) (with_flags r.status false r)))

abbrev pub enter : Choice → (place value : ℕ) → Regs → Regs
enter Nothing v n r = r
enter Control v n r = controlled v n r
enter Source v n r = with_source n r
enter Mask v n r = with_mask n r

abbrev pub entered : Access → ℕ → Regs → Regs
entered k n r = enter k.choice k.place n r

-- sixteen stitches from needle x on, each at the place of its own needle: place j has the one whose needle is j mod 16
abbrev pub aligned : (x word : ℕ) → ℕ
aligned x w = pack (λ j. bit w (15 - (j + 16 - x % 16) % 16))

abbrev pub load : Choice → (place x word : ℕ) → Regs → Regs
load Nothing v x w r = r
load Control v x w r = cond (v % 4 == 3) (with_flags r.status false r) r
load Source v x w r = with_source w r
load Mask v x w r = with_mask (aligned x w) r

-- what a read makes of the word at its place
abbrev pub loaded : Access → ℕ → Regs → Regs
loaded k w r = load k.choice k.place (r.cursors (pair_number k.pair)).x.0 w r

-- what a read answers: the source, its low 16 - width bits zero
unfoldable pub answered : Regs → ℕ
answered r = pack (λ i. bit r.source (15 - i) && nat_lt i r.width)

-- ---- the flag
-- D8, which is bit 0 of the status
abbrev pub armed : Regs → Bool
armed r = r.status % 2 == 1

abbrev pub retraced : Regs → Regs
retraced r = with_flags r.status (cond (armed r) true r.flag) r

-- the level in D13 to D15
abbrev pub interrupted : Regs → Option ℕ
interrupted r = cond (r.flag && armed r) (Some (r.status / 32)) None
