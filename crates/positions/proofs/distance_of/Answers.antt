-- `positions::distance_of` meets its contract.
-- 0 moved by a number is that number.
use Rattle.std.proofs.Common.{◌∙◌, arith, w32, to_z}
use Rattle.positions.specs.Moves.{from_zero}
use Rattle.positions.proofs.distance_of.Goals as goal

pub moved_by-requires : goal.moved_by-requires
moved_by-requires c = record { near = omega arith }

pub returns : goal.returns
returns c = c.moved_by.ensures ∙ from_zero (to_z w32 c.args.n)
