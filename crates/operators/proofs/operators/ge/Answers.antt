-- `operators::operators::ge` meets its contract: it is `le` with the cells exchanged. Assumes nothing.
use Rattle.std.proofs.Common.{◌∙◌}
use Rattle.operators.proofs.Arms.{exchanged}
use Rattle.operators.proofs.operators.ge.Goals as goal

pub returns : goal.returns
returns c = c.le.ensures ∙ (exchanged c.args.a c.args.b).1
