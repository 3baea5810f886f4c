-- `step::tests::put_fits` meets its contract.
use Rattle.std.proofs.Common.{sym, ap, ◌∙◌, List}
use borrow.Author.Tests.{not-true, not-false}
use Rattle.paper.specs.declared.Axis.{Axis}
use Rattle.paper.specs.Answers.{axes_of}
use Rattle.paper.specs.Recipe.{covers}
use Rattle.laws.specs.Tests.{and_no, and_yes}
use Rattle.step.proofs.tests.put_fits.Goals as goal

pub returns-then-not-slice_fits : goal.returns-then-not-slice_fits
returns-then-not-slice_fits c = and_no _ _ (sym c.slice_fits.ensures ∙ not-true _ c.if-not-slice_fits.true-raw)

pub returns : goal.returns
returns c =
    c.covers_all.ensures ∙ ap (λ (l : List Axis). covers l (axes_of c.args.f)) c.removed.ensures
    ∙ and_yes _ _ (sym c.slice_fits.ensures ∙ not-false _ c.if-not-slice_fits.false-raw)
