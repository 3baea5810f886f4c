-- `rma::rma_extent` meets its contract: the length of the head is said, and the head stands in the buffer.
use Rattle.std.proofs.Common.{ap}
use Rattle.paper.specs.Bundle.{After}
use Rattle.c_told.specs.Given.{number_bytes}
use Rattle.c_told.specs.Replies.{speaks}
use Rattle.rma.proofs.rma_extent.Goals as goal

pub returns : goal.returns
returns c =
    let e = c.extent.ensures in (
      speaks number_bytes _ _ _ _ _ c.reply_of.ensures (ap (λ (w : After). w.answer) e) c.give.ensures,
      ap (λ (w : After). w.buffer) e,
    )
