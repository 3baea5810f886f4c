-- `operators::logic::is_truth` meets its contract: each arm is given which cell c is. Assumes nothing.
use Rattle.std.proofs.Common.{rules, sym, ap}
use Rattle.paper.specs.Cells.{is_truth}
use Rattle.operators.proofs.logic.is_truth.Goals as goal

pub returns-in-Empty : goal.returns-in-Empty
unfolding is_truth
returns-in-Empty c = search rules

pub returns-in-Int : goal.returns-in-Int
unfolding is_truth
returns-in-Int c = search rules

pub returns-in-Float : goal.returns-in-Float
unfolding is_truth
returns-in-Float c = search rules

pub returns-in-Truth : goal.returns-in-Truth
unfolding is_truth
returns-in-Truth c = sym (ap (is_truth c.args.v) c.in-Truth.is)
