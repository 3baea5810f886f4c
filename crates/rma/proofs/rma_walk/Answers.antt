-- `rma::rma_walk` meets its contract: the step’s answer is said, and the place after it is put where the place stood.
use Rattle.c_told.specs.Given.{seen_bytes}
use Rattle.c_told.specs.Replies.{speaks}
use Rattle.rma.proofs.rma_walk.Goals as goal

pub returns : goal.returns
returns c =
    let w = c.walk_bytes.ensures in
    (speaks seen_bytes _ _ _ _ _ c.reply_of.ensures w.0 c.give.ensures, w.1)
