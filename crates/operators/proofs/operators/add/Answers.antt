-- `operators::operators::add` meets its contract: INT and FLOAT add.
use Rattle.paper.specs.Operators.{applied}
use Rattle.operators.proofs.operators.add.Goals as goal

pub returns : goal.returns
unfolding applied
returns c = c.worked.ensures _ _ (λ x y r p. p) (λ x y r p. p)
