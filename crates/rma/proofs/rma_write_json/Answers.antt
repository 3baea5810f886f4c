-- `rma::rma_write_json` meets its contract: the writer’s answer is said, and the buffer is as the writer leaves it.
use Rattle.c_told.specs.Given.{number_bytes}
use Rattle.c_told.specs.Replies.{speaks}
use Rattle.rma.proofs.rma_write_json.Goals as goal

pub returns : goal.returns
returns c =
    let w = c.write.ensures in
    (speaks number_bytes _ _ _ _ _ c.reply_of.ensures w.0 c.give.ensures, w.1)
