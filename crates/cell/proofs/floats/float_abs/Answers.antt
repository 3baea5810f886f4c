-- `cell::floats::float_abs` meets its contract. Assumes nothing.
use Rattle.std.proofs.Common.{◌∙◌}
use Rattle.cell.proofs.Number.{abs-told}
use Rattle.cell.proofs.floats.float_abs.Goals as goal

pub returns : goal.returns
returns c = c.abs.ensures.value ∙ abs-told c.args.x
