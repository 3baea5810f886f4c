-- `cell::means::mean_sum` meets its contract: the end of what is left to do. Assumes nothing.
use Rattle.cell.proofs.Onward.{end_none, end-some}
use Rattle.cell.proofs.means.mean_sum.Goals as goal

pub returns-then-m-eq0 : goal.returns-then-m-eq0
returns-then-m-eq0 c = λ k. end_none (λ r. r.sum) k c.args.m c.if-m-eq0.true

pub returns-else-m-eq0 : goal.returns-else-m-eq0
returns-else-m-eq0 c = λ k. end-some (λ r. r.sum) k c.args.m c.if-m-eq0.false
