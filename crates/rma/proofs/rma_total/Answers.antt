-- `rma::rma_total` meets its contract: the total’s cell is said.
use Rattle.c_told.specs.Given.{total_bytes}
use Rattle.c_told.specs.Replies.{speaks}
use Rattle.rma.proofs.rma_total.Goals as goal

pub returns : goal.returns
returns c = speaks total_bytes _ _ _ _ _ c.reply_of.ensures
    c.total_asked.ensures c.give.ensures
