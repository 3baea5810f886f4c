-- `operators::logic::not_cell` meets its contract: each way out is one of Truths.antt. Assumes nothing.
use Rattle.std.proofs.Common.{sym, ◌∙◌}
use Rattle.operators.proofs.Truths.{not-true, not-false, not-unknown}
use Rattle.operators.proofs.logic.not_cell.Goals as goal

pub returns-then-is_truth : goal.returns-then-is_truth
returns-then-is_truth c = not-true c.args.c (sym c.is_truth.ensures ∙ c.if-is_truth.true)

pub returns-then-is_truth-2 : goal.returns-then-is_truth-2
returns-then-is_truth-2 c = not-false c.args.c (sym c.is_truth.ensures ∙ c.if-is_truth.false) (sym c.is_truth-2.ensures ∙ c.if-is_truth-2.true)

pub returns : goal.returns
returns c = not-unknown c.args.c (sym c.is_truth.ensures ∙ c.if-is_truth.false) (sym c.is_truth-2.ensures ∙ c.if-is_truth-2.false)
