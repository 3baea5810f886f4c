-- `cell::means::mean_average` meets its contract: the end of what is left to do. Assumes nothing.
use Rattle.cell.proofs.Onward.{end_none, end-some}
use Rattle.paper.specs.Totals.{average}
use Rattle.cell.proofs.means.mean_average.Goals as goal

pub returns-then-m-eq0 : goal.returns-then-m-eq0
returns-then-m-eq0 c = λ k. end_none average k c.args.m c.if-m-eq0.true

pub returns-else-m-eq0 : goal.returns-else-m-eq0
returns-else-m-eq0 c = λ k. end-some average k c.args.m c.if-m-eq0.false
