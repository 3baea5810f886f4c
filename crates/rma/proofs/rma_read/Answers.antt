-- `rma::rma_read` meets its contract: the number of arrays is said.
use Rattle.std.proofs.Common.{refl}
use Rattle.c_told.specs.Given.{number_bytes}
use Rattle.c_told.specs.Replies.{speaks}
use Rattle.rma.proofs.rma_read.Goals as goal

pub returns : goal.returns
returns c = speaks number_bytes _ _ _ _ _ c.reply_of.ensures c.count_of.ensures c.give.ensures
