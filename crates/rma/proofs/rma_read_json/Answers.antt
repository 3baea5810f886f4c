-- `rma::rma_read_json` meets its contract: the reader’s answer is said, its byte place capped; the cells are as the reader leaves them.
use Rattle.std.proofs.Common.{ap}
use Rattle.c_told.specs.Said.{capped_in}
use Rattle.c_told.specs.Given.{number_bytes}
use Rattle.c_told.specs.Replies.{speaks}
use Rattle.rma.proofs.rma_read_json.Goals as goal

pub returns : goal.returns
returns c =
    let w = c.json_by_head.ensures in
    (speaks number_bytes _ _ _ _ _ c.of_json.ensures (ap capped_in w.said) c.give.ensures, w.wrote)
