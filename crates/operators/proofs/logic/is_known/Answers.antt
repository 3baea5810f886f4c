-- `operators::logic::is_known` meets its contract: a truth value is TRUE or FALSE. Assumes nothing.
use Rattle.std.proofs.Common.{ap₂, ◌||◌}
use Rattle.operators.proofs.logic.is_known.Goals as goal

pub returns : goal.returns
returns c = ap₂ ◌||◌ c.is_truth.ensures c.is_truth-2.ensures
