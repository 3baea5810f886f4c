-- `quick::operands::raw_of` meets its contract: it tells itself whether the operand is a scalar, which lies nowhere. Assumes nothing.
use Rattle.std.proofs.Common.{◌^◌, ◌≡◌, sym, ◌∙◌, subst, true, false, arith, eq-eqb, ne_eqb, T, eqb}
use Rattle.quick.specs.Operands.{scalar_side, bytes_most}
use Rattle.quick.proofs.operands.raw_of.Goals as goal
use Rattle.quick.proofs.operands.raw_of.Goals.{Else-from-eq-SCALAR, Then-from-eq-SCALAR}

scalar : (c : Then-from-eq-SCALAR) → eqb c.args.from.which scalar_side ≡ true
scalar c = eq-eqb c.args.from.which scalar_side c.if-from-eq-SCALAR.true

array : (c : Else-from-eq-SCALAR) → eqb c.args.from.which scalar_side ≡ false
array c = ne_eqb c.args.from.which scalar_side c.if-from-eq-SCALAR.false

pub raw_told-requires : goal.raw_told-requires
raw_told-requires c = record { lies = λ h. absurd (subst T (sym (scalar c) ∙ h) tt); scalar_side_value = scalar c }

pub returns-then-from-eq-SCALAR : goal.returns-then-from-eq-SCALAR
returns-then-from-eq-SCALAR c = let e = scalar (goal.at.returns-then-from-eq-SCALAR c).Then-from-eq-SCALAR in (rw e (rw e at c.raw_told.ensures.0), rw e (rw e at c.raw_told.ensures.1))

pub overflow_mul-k : goal.overflow_mul-k
overflow_mul-k c =
    omega (arith, c.requires.room (array c), bytes_most c.args.from.which c.args.bundle.now c.args.done.now (2 ^ 63) (omega arith) (omega arith))

pub raw_told-requires-2 : goal.raw_told-requires-2
raw_told-requires-2 c = record { lies = c.requires.room; scalar_side_value = array c }
