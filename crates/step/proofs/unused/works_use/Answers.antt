-- `step::unused::works_use` meets its contract: each by its own line of the table.
use Rattle.step.specs.Using.{used_by}
use Rattle.step.proofs.unused.works_use.Goals as goal

pub returns-in-Pair : goal.returns-in-Pair
unfolding used_by
returns-in-Pair c m n = rw c.in-Pair.is c.used_as.ensures

pub returns-in-Scalar : goal.returns-in-Scalar
unfolding used_by
returns-in-Scalar c m n = rw c.in-Scalar.is c.used_as-in-Scalar.ensures

pub returns-in-Single : goal.returns-in-Single
unfolding used_by
returns-in-Single c m n = rw c.in-Single.is c.used_as-in-Single.ensures
