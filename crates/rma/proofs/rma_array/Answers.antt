-- `rma::rma_array` meets its contract: what is told of the array is said.
use Rattle.std.proofs.Common.{refl}
use Rattle.c_told.specs.Given.{array_bytes}
use Rattle.c_told.specs.Replies.{speaks}
use Rattle.rma.proofs.rma_array.Goals as goal

pub returns : goal.returns
returns c = speaks array_bytes _ _ _ _ _ c.array_told.ensures refl c.give.ensures
