use Rattle.std.proofs.Common.{◌≡◌, ℕ, ◌+◌, ◌*◌, ◌%◌, Bool, true, false, cond, sym, refl, subst, arith}
use denote.Enum.Declared.{tag_of}
use mir.Val.{bool_byte}
use Rattle.registers.specs.contracts.access.Choice as choice_type
use Rattle.registers.specs.contracts.access.Pair as pair_type
use Rattle.registers.specs.contracts.cursor.Axis as axis_type
use Rattle.registers.specs.declared.access.Choice.{Choice}
use Rattle.registers.specs.declared.access.Choice.TheVariants.{Nothing, Control, Source, Mask}
use Rattle.registers.specs.declared.access.Pair.{Pair}
use Rattle.registers.specs.declared.access.Pair.TheVariants.{Zero, One, Two, Three}
use Rattle.registers.specs.declared.cursor.Axis.{Axis}
use Rattle.registers.specs.declared.cursor.Axis.TheVariants.{Across, Down}
use Rattle.registers.specs.Codes.{pair_number}
use Rattle.registers.specs.Accesses.{address_of, number_of_axis, number_of_choice, Asks}
use Rattle.registers.proofs.Spelling.{asks}
use Rattle.registers.proofs.access.Access.address.Goals as goal

-- the numbers that the casts give
axis_cast : (k : Axis) → tag_of axis_type.the_type k ≡ number_of_axis k
axis_cast Across = refl
axis_cast Down = refl

pair_cast : (k : Pair) → tag_of pair_type.the_type k ≡ pair_number k
pair_cast Zero = refl
pair_cast One = refl
pair_cast Two = refl
pair_cast Three = refl

choice_cast : (k : Choice) → tag_of choice_type.the_type k ≡ number_of_choice k
choice_cast Nothing = refl
choice_cast Control = refl
choice_cast Source = refl
choice_cast Mask = refl

digit : (b : Bool) → bool_byte b ≡ cond b 1 0
digit true = refl
digit false = refl

pub returns : goal.returns
unfolding address_of
returns c =
    let axis = axis_cast c.args.self.axis in
    let pair = pair_cast c.args.self.pair in
    let choice = choice_cast c.args.self.choice in
    let update = digit c.args.self.update in
    let sum : 2 * (c.from.result % 1024) + 2048 * tag_of axis_type.the_type c.args.self.axis + 4096 * tag_of pair_type.the_type c.args.self.pair + 16384 * tag_of choice_type.the_type c.args.self.choice + 65536 * c.from-2.result + 131072 * c.from-3.result ≡ address_of c.args.unit.number c.args.self = cc in
    record {
      value = sum;
      back = λ near. subst (λ (a : ℕ). Asks c.args.unit.number c.args.self a) (sym sum) (asks c.args.unit.number c.args.self (omega arith) near);
    }
