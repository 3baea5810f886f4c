-- `step::agreeing::others_differ` meets its contract: names and axes without one, compared; the index is that in A.
use Rattle.std.proofs.Common.{List, ◌≡◌, ◌∙◌, ap, ap₂, arith, rules, ℕ, length}
use Rattle.paper.specs.declared.Name.{Name}
use Rattle.paper.specs.declared.Axis.{Axis}
use Rattle.paper.specs.Limits.{most_axes}
use Rattle.paper.specs.Axes.{without}
use Rattle.paper.specs.Recipe.{first_difference, agree}
use Rattle.paper.specs.Answers.{axes_of, names_for}
use Rattle.laws.specs.Loops.{length-mapped}
use Rattle.step.specs.declared.agreeing.Compared.TheVariants.{OtherNames}
use Rattle.step.specs.Agreeing.{limits_in, indices_in, other-indices, others-told}
use Rattle.step.proofs.agreeing.others_differ.Goals as goal
use Rattle.step.proofs.agreeing.others_differ.Goals.{Start}

full : (c : Start) → length c.args.m ≡ most_axes
full c = search (rules, length-mapped)

pub returns : goal.returns
unfolding agree
returns c =
    let k = c.args.k in
    let F = axes_of c.args.f in
    let N = names_for F c.args.n in
    let E = without k.0 (axes_of c.args.e) in
    let new = c.without_name-others.result in
    let r = c.rank_of.ensures in
    let told =
    others-told k.0 c.args.m new (axes_of c.args.e) c.rank_of.result r.number
    (omega (arith, full (goal.at.returns c).Start, r.few)) c.without_name-others.ensures in
    c.first_difference.ensures
    ∙ ap (λ (X : List Axis). first_difference (limits_in (OtherNames k)) (indices_in (OtherNames k) 0 (length X)) (names_for X new) X N F)
    c.removed.ensures
    ∙ ap₂ (λ (I : List ℕ) (M : List Name). first_difference (limits_in (OtherNames k)) I M E N F)
    (other-indices k (axes_of c.args.e) c.requires) told

pub without_name-others-requires : goal.without_name-others-requires
without_name-others-requires c = c.rank_of.ensures.few
