-- `operators::types::gives_single` meets its contract. Assumes nothing.
use Rattle.std.proofs.Common.{ℕ, ◌≤◌, ◌<◌, le-leb, subst}
use borrow.Author.Tests.{lt-leb}
use Rattle.paper.specs.Operators.{gives_one, single_no}
use Rattle.paper.specs.declared.SingleOp.TheVariants.{Absolute}
use Rattle.operators.proofs.types.gives_single.Goals as goal

pub returns-then-single_number-le2 : goal.returns-then-single_number-le2
unfolding gives_one
returns-then-single_number-le2 c = simp (le-leb (single_no c.args.op) (single_no Absolute) (subst (λ (n : ℕ). n ≤ single_no Absolute) c.single_number.ensures c.if-single_number-le2.true))

pub returns-else-single_number-le2 : goal.returns-else-single_number-le2
unfolding gives_one
returns-else-single_number-le2 c = simp (lt-leb (single_no c.args.op) (single_no Absolute) (subst (λ (n : ℕ). single_no Absolute < n) c.single_number.ensures c.if-single_number-le2.false))
