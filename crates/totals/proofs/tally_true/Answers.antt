-- `totals::tally_true` meets its contract.
use Rattle.std.proofs.Common.{sym, ◌∙◌}
use Rattle.totals.proofs.tally_true.Goals as goal

pub returns-then-is_truth : goal.returns-then-is_truth
returns-then-is_truth c = rw (sym c.is_truth.ensures ∙ c.if-is_truth.true)

pub returns : goal.returns
returns c = rw (sym c.is_truth.ensures ∙ c.if-is_truth.false)
