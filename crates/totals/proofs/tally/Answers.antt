-- `totals::tally` meets its contract.
use Rattle.std.proofs.Common.{sym, ◌∙◌}
use Rattle.totals.proofs.tally.Goals as goal

pub returns-then-trues : goal.returns-then-trues
returns-then-trues c = rw c.if-trues.true c.tally_true.ensures

pub returns-then-is_empty : goal.returns-then-is_empty
returns-then-is_empty c = rw (c.if-trues.false, sym c.is_empty.ensures ∙ c.if-is_empty.true)

pub returns : goal.returns
returns c = rw (c.if-trues.false, sym c.is_empty.ensures ∙ c.if-is_empty.false)
