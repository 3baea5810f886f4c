-- `operators::logic::decided_by` meets its contract: by what was read of the two (Truths.antt). Assumes nothing.
use Rattle.operators.proofs.Truths.{decided, undecided}
use Rattle.operators.proofs.logic.decided_by.Goals as goal

pub returns-then-one-both : goal.returns-then-one-both
returns-then-one-both c =
    let t = c in
    let a = t.args in
    decided a.v a.a a.b _ _ _ _ t.is_truth.ensures t.is_truth-2.ensures t.is_known.ensures t.is_known-2.ensures c.if-one-both.true

pub returns-else-one-both : goal.returns-else-one-both
returns-else-one-both c =
    let t = c in
    let a = t.args in
    undecided a.v a.a a.b _ _ _ _ t.is_truth.ensures t.is_truth-2.ensures t.is_known.ensures t.is_known-2.ensures c.if-one-both.false
