-- `totals::float_total` meets its contract.
use Rattle.std.proofs.Common.{ap, ◌∙◌, arith}
use Rattle.totals.specs.Sums.{as_total, made_of}
use Rattle.totals.proofs.float_total.Goals as goal

pub returns-in-Err : goal.returns-in-Err
returns-in-Err c = rw (c.refuse_at.ensures, ← c.in-Err.ensures.0 (made_of c.args.mean) c.args.k)

pub returns-then-mean : goal.returns-then-mean
returns-then-mean c = rw c.if-mean.true (ap as_total (c.mean_average.ensures c.args.k ∙ c.in-Ok.ensures _ c.args.k))

pub returns-else-mean : goal.returns-else-mean
returns-else-mean c = rw c.if-mean.false (ap as_total (c.mean_sum.ensures c.args.k ∙ c.in-Ok.ensures _ c.args.k))

pub overflow_cast-o : goal.overflow_cast-o
overflow_cast-o c = omega (arith, c.in-Err.ensures.1, c.requires.few)
