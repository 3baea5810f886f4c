-- `rma::rma_refer` meets its contract: the cell is said.
use Rattle.paper.specs.Cells.{encode}
use Rattle.c_told.specs.Replies.{speaks}
use Rattle.rma.proofs.rma_refer.Goals as goal

pub returns : goal.returns
returns c = speaks encode _ _ _ _ _ c.reply_of.ensures
    c.refer_bytes.ensures c.give.ensures
