-- `step::tests::one_type` meets its contract: where B is not used, its type is free.
use borrow.Author.Tests.{not-false}
use Rattle.step.proofs.tests.one_type.Goals as goal

pub returns : goal.returns
returns c = rw (not-false c.args.b c.if-not-b.false-raw)
