-- `cell::sums::exact_answer` meets its contract: each way out is one of Exactly.antt. Assumes nothing.
use Rattle.std.proofs.Common.{refl}
use borrow.Author.Rules.{sfits_of}
use Rattle.cell.proofs.Exactly.{none_said, too-low, too-high, fitting}
use Rattle.cell.proofs.sums.exact_answer.Goals as goal

pub returns-then-t-eq0 : goal.returns-then-t-eq0
returns-then-t-eq0 c = none_said c.args.t c.if-t-eq0.true

pub returns-then-top-base : goal.returns-then-top-base
returns-then-top-base c = λ k cs s. too-low c.args.t c.if-t-eq0.false _ refl k cs s c.if-top-base.true

pub returns-then-d-lt-HALF : goal.returns-then-d-lt-HALF
returns-then-d-lt-HALF c = λ k cs s. fitting c.args.t c.if-t-eq0.false _ refl k cs s c.if-top-base.false c.above.result (sfits_of c.above.type_inv) c.above.ensures

pub returns-else-d-lt-HALF : goal.returns-else-d-lt-HALF
returns-else-d-lt-HALF c = λ k cs s. too-high c.args.t c.if-t-eq0.false _ refl k cs s c.if-d-lt-HALF.false
