-- `recipe::operands::used_b` meets its contract.
use Rattle.recipe.proofs.operands.used_b.Goals as goal

pub returns : goal.returns
returns c = rw c.if-used.false c.no_operand.ensures
