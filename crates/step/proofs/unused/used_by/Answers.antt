-- `step::unused::used_by` meets its contract: a move or a work.
use Rattle.laws.specs.Sizes.{fits}
use Rattle.step.proofs.unused.used_by.Goals as goal

pub returns-in-Moves : goal.returns-in-Moves
returns-in-Moves c = rw (c.in-Moves.is, ← c.sizes-z.ensures) c.moves_use.ensures

pub returns-in-Works : goal.returns-in-Works
returns-in-Works c = rw c.in-Works.is (c.works_use.ensures _ _)

pub moves_use-requires : goal.moves_use-requires
moves_use-requires c =
    record { name_bound = rw c.sizes-z.ensures (fits c.args.v).name; n_le_most_axes = c.requires }
