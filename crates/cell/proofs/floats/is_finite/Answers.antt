-- `cell::floats::is_finite` meets its contract. Assumes nothing.
use Rattle.std.proofs.Common.{◌∙◌}
use Rattle.cell.proofs.Number.{finite-told}
use Rattle.cell.proofs.floats.is_finite.Goals as goal

pub returns : goal.returns
returns c = c.is_finite.ensures.value ∙ finite-told c.args.x
