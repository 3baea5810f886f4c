-- `step::agreeing::works_differ` meets its contract: two arrays by names and limits; the others have no B.
use Rattle.std.proofs.Common.{◌∙◌, refl, rules}
use Rattle.paper.specs.Recipe.{agree}
use Rattle.step.specs.declared.agreeing.Compared.TheVariants.{Limits}
use Rattle.step.specs.Agreeing.{by-all-indices}
use Rattle.step.proofs.agreeing.works_differ.Goals as goal

pub returns-in-Pair : goal.returns-in-Pair
unfolding agree
returns-in-Pair c =
    let a = c.args in
    rw c.in-Pair.is
    (c.first_difference.ensures ∙ by-all-indices Limits (λ j. refl) a.m a.e a.n a.f)

pub first_difference-requires : goal.first_difference-requires
unfolding agree
first_difference-requires c = search rules

pub returns-in-Scalar : goal.returns-in-Scalar
unfolding agree
returns-in-Scalar c = search rules

pub returns-in-Single : goal.returns-in-Single
unfolding agree
returns-in-Single c = search rules
