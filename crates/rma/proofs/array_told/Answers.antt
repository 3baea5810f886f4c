-- `rma::array_told` meets its contract: the refusal, or what the head tells; where the cells begin fits into four bytes.
use Rattle.std.proofs.Common.{sym, arith}
use Rattle.c_told.specs.Given.{array_bytes}
use Rattle.c_told.specs.Replies.{told-as}
use Rattle.rma.specs.Arrays.{array-near, array-said}
use Rattle.rma.proofs.array_told.Goals as goal

pub returns-in-Err : goal.returns-in-Err
returns-in-Err c = told-as array_bytes _ _ _ (sym c.in-Err.ensures.1) c.refused.ensures

pub overflow_cast-cells : goal.overflow_cast-cells
overflow_cast-cells c = omega (arith, c.in-Ok.ensures.fit.few)

pub overflow_cast-at : goal.overflow_cast-at
overflow_cast-at c = record { fits = array-near c.in-Ok.ensures (λ i. omega (arith, c.shared_slice_known-1.given i)) }

pub returns-in-Ok : goal.returns-in-Ok
returns-in-Ok c = array-said c.in-Ok.ensures c.rank_of-rank.ensures.number c.of_numbers.ensures
