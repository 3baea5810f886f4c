-- `rma::rma_page` meets its contract: the page’s answer is said, and both buffers are as the page leaves them.
use Rattle.std.proofs.Common.{ap}
use Rattle.paper.specs.Listing.{Paged}
use Rattle.c_told.specs.Given.{listed_bytes}
use Rattle.c_told.specs.Replies.{speaks}
use Rattle.rma.proofs.rma_page.Goals as goal

pub returns : goal.returns
returns c =
    let e = c.page-answer.ensures in (
      speaks listed_bytes _ _ _ _ _ c.reply_of.ensures (ap (λ (w : Paged). w.answer) e) c.give.ensures,
      ap (λ (w : Paged). w.work) e,
      ap (λ (w : Paged). w.rows) e,
    )
