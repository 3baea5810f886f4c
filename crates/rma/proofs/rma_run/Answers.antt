-- `rma::rma_run` meets its contract: the run’s answer is said, and the work area is as the run leaves it.
use Rattle.std.proofs.Common.{ap}
use Rattle.paper.specs.Bundle.{After}
use Rattle.c_told.specs.Given.{number_bytes}
use Rattle.c_told.specs.Replies.{speaks}
use Rattle.rma.proofs.rma_run.Goals as goal

pub returns : goal.returns
returns c =
    let e = c.run.ensures in (
      speaks number_bytes _ _ _ _ _ c.reply_of.ensures (ap (λ (w : After). w.answer) e) c.give.ensures,
      ap (λ (w : After). w.buffer) e,
    )
