-- `step::unused::axis_in` meets its contract: free, or 1 to n.
use borrow.Author.Tests.{not-false}
use Rattle.step.proofs.unused.axis_in.Goals as goal

pub returns : goal.returns
returns c = rw (not-false c.args.used.axis c.if-not-used.false) c.in_range.ensures
