-- `step::tests::scalar_fits` meets its contract.
use Rattle.std.specs.Prelude.{◌≡◌, refl, Option, Some, None, is_some}
use Rattle.paper.specs.declared.Cell.{Cell}
use Rattle.std.proofs.Common.{sym, ap, ◌∙◌}
use borrow.Author.Tests.{not-true, not-false}
use Rattle.laws.specs.Tests.{and_no}
use Rattle.paper.specs.Recipe.{is_scalar}
use Rattle.step.specs.Steps.{scalar-told}
use Rattle.step.proofs.tests.scalar_fits.Goals as goal

pub returns-then-not-takes_pair : goal.returns-then-not-takes_pair
returns-then-not-takes_pair c = and_no _ _ (sym c.takes_pair.ensures ∙ not-true _ c.if-not-takes_pair.true-raw)

either : (o : Option Cell) → is_some o ≡ is_scalar o
unfolding is_scalar
either (Some c) = refl
either None = refl

pub returns : goal.returns
returns c =
    c.is_some.ensures
    ∙ either c.from_word.result
    ∙ scalar-told c.args.o c.args.t c.args.s.now c.args.at (sym c.takes_pair.ensures ∙ not-false _ c.if-not-takes_pair.false-raw) c.from_word.result c.word.result c.from_word.ensures c.word.ensures
