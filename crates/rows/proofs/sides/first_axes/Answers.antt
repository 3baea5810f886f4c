-- `rows::sides::first_axes` meets its contract.
use Rattle.rows.specs.Fronts.{first-told}
use Rattle.rows.proofs.sides.first_axes.Goals as goal

pub returns : goal.returns
returns c = first-told c.args.e c.args.c c.requires
