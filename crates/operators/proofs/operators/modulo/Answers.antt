-- `operators::operators::modulo` meets its contract: INT has MOD, FLOAT none.
use Rattle.std.proofs.Common.{rules}
use Rattle.paper.specs.Operators.{applied}
use Rattle.operators.proofs.operators.modulo.Goals as goal

pub returns : goal.returns
unfolding applied
returns c = c.worked.ensures _ _ (λ x y r p. p) (λ x y r p. search rules)
