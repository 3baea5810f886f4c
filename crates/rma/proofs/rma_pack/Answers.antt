-- `rma::rma_pack` meets its contract: the forms have the heads’ shapes, packing’s answer is said, and the buffer is as packing leaves it.
use Rattle.c_told.specs.Given.{number_bytes}
use Rattle.c_told.specs.Replies.{speaks}
use Rattle.rma.proofs.rma_pack.Goals as goal

pub returns : goal.returns
returns c =
    let w = c.pack_heads.ensures in
    (speaks number_bytes _ _ _ _ _ c.reply_of.ensures w.said c.give.ensures, w.wrote)
