-- `recipe::operands::no_operand` meets its contract.
use Rattle.recipe.proofs.operands.no_operand.Goals as goal

pub returns : goal.returns
returns c = rw c.no_head-head.ensures
