-- `step::tests::trim_fits` meets its contract.
use Rattle.std.proofs.Common.{ap, ◌∙◌, List}
use Rattle.paper.specs.declared.Axis.{Axis}
use Rattle.paper.specs.Answers.{axes_of}
use Rattle.paper.specs.Recipe.{covers}
use Rattle.step.proofs.tests.trim_fits.Goals as goal

pub returns : goal.returns
returns c = c.covers_all.ensures ∙ ap (λ (l : List Axis). covers (axes_of c.args.e) l) c.with_limits.ensures
