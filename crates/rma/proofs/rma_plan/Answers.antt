-- `rma::rma_plan` meets its contract: the plan's figures are said.
use Rattle.c_told.specs.Given.{foreseen_bytes}
use Rattle.c_told.specs.Replies.{speaks}
use Rattle.rma.proofs.rma_plan.Goals as goal

pub returns : goal.returns
returns c =
    speaks foreseen_bytes _ _ _ _ _ c.reply_of.ensures c.plan.ensures c.give.ensures
