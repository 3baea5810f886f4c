-- `operators::types::gives_pair` meets its contract. Assumes nothing.
use Rattle.std.proofs.Common.{ℕ, ◌≤◌, ◌<◌, le-leb, subst}
use borrow.Author.Tests.{lt-leb}
use Rattle.paper.specs.Operators.{gives, pair_no}
use Rattle.paper.specs.declared.PairOp.TheVariants.{Mod}
use Rattle.operators.proofs.types.gives_pair.Goals as goal

pub returns-then-pair_number-le5 : goal.returns-then-pair_number-le5
unfolding gives
returns-then-pair_number-le5 c = simp (le-leb (pair_no c.args.op) (pair_no Mod) (subst (λ (n : ℕ). n ≤ pair_no Mod) c.pair_number.ensures c.if-pair_number-le5.true))

pub returns-else-pair_number-le5 : goal.returns-else-pair_number-le5
unfolding gives
returns-else-pair_number-le5 c = simp (lt-leb (pair_no c.args.op) (pair_no Mod) (subst (λ (n : ℕ). pair_no Mod < n) c.pair_number.ensures c.if-pair_number-le5.false))
