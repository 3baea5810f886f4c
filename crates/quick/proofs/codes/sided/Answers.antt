-- `quick::codes::sided` meets its contract: which of the two operands is a scalar was tested. Assumes nothing.
use Rattle.std.proofs.Common.{eq-eqb, ne_eqb}
use Rattle.quick.specs.Operands.{scalar_side}
use Rattle.quick.specs.Cells.{none_yet}
use Rattle.quick.proofs.codes.sided.Goals as goal

pub quick_cells-requires : goal.quick_cells-requires
quick_cells-requires c =
    record { workable = c.requires.workable; sides = record { first = eq-eqb c.args.q.first.which scalar_side c.if-a-eq-SCALAR.true; second = ne_eqb c.args.q.second.which scalar_side c.if-b-eq-SCALAR.false }; code_value = c.requires.code_value }

pub quick_cells-requires-then-b-eq-SCALAR-2 : goal.quick_cells-requires-then-b-eq-SCALAR-2
quick_cells-requires-then-b-eq-SCALAR-2 c =
    record { workable = c.requires.workable; sides = record { first = ne_eqb c.args.q.first.which scalar_side c.if-a-eq-SCALAR.false; second = eq-eqb c.args.q.second.which scalar_side c.if-b-eq-SCALAR-2.true }; code_value = c.requires.code_value }

pub quick_cells-requires-2 : goal.quick_cells-requires-2
quick_cells-requires-2 c =
    record { workable = c.requires.workable; sides = record { first = ne_eqb c.args.q.first.which scalar_side c.if-a-eq-SCALAR.false; second = ne_eqb c.args.q.second.which scalar_side c.if-b-eq-SCALAR-2.false }; code_value = c.requires.code_value }

pub returns-then-b-eq-SCALAR : goal.returns-then-b-eq-SCALAR
returns-then-b-eq-SCALAR c = none_yet
