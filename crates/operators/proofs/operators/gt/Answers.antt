-- `operators::operators::gt` meets its contract: it is `lt` with the cells exchanged. Assumes nothing.
use Rattle.std.proofs.Common.{◌∙◌}
use Rattle.operators.proofs.Arms.{exchanged}
use Rattle.operators.proofs.operators.gt.Goals as goal

pub returns : goal.returns
returns c = c.lt.ensures ∙ (exchanged c.args.a c.args.b).0
