-- `recipe::operands::slot_of` meets its contract.
use Rattle.std.proofs.Common.{◌+◌, arith, le-leb}
use borrow.Author.Tests.{lt-leb}
use Rattle.paper.specs.Limits.{most_arrays, steps_from, most_steps}
use Rattle.recipe.proofs.operands.slot_of.Goals as goal

pub returns-then-i-le-ARRAYS : goal.returns-then-i-le-ARRAYS
returns-then-i-le-ARRAYS c = (rw (le-leb c.args.n most_arrays c.if-i-le-ARRAYS.true), omega arith)

pub returns-then-i-le-RESULTS : goal.returns-then-i-le-RESULTS
returns-then-i-le-RESULTS c =
    let n = c.args.n in
    (rw (lt-leb n most_arrays c.if-i-le-ARRAYS.false, le-leb n steps_from c.if-i-le-RESULTS.true), omega arith)

pub returns-then-i : goal.returns-then-i
returns-then-i c =
    let n = c.args.n in (
      rw (
        lt-leb n most_arrays c.if-i-le-ARRAYS.false,
        lt-leb n steps_from c.if-i-le-RESULTS.false,
        le-leb n (steps_from + most_steps) c.if-i.true,
      ),
      omega arith,
    )

pub returns : goal.returns
returns c =
    let n = c.args.n in (
      rw (
        lt-leb n most_arrays c.if-i-le-ARRAYS.false,
        lt-leb n steps_from c.if-i-le-RESULTS.false,
        lt-leb n (steps_from + most_steps) c.if-i.false,
      ),
      omega arith,
    )
