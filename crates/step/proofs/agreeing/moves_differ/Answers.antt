-- `step::agreeing::moves_differ` meets its contract: each move by its own line of the table.
use Rattle.std.proofs.Common.{true, ◌≡◌, ◌∙◌, refl, subst, rules, length}
use Rattle.paper.specs.declared.Move.{Move}
use Rattle.paper.specs.declared.Operation.TheVariants.{Moves}
use Rattle.paper.specs.Refusals.{between}
use Rattle.paper.specs.Recipe.{uses, axis_in, agree}
use Rattle.paper.specs.Answers.{axes_of}
use Rattle.laws.specs.Tests.{between-true}
use Rattle.step.specs.declared.agreeing.Compared.TheVariants.{Names, OtherLimits}
use Rattle.step.specs.Agreeing.{by-all-indices}
use Rattle.step.proofs.agreeing.moves_differ.Goals as goal

pub returns-in-Update : goal.returns-in-Update
unfolding agree
returns-in-Update c =
    let a = c.args in
    rw c.in-Update.is
    (c.first_difference.ensures ∙ by-all-indices Names (λ j. refl) a.m a.e a.n a.f)

pub others_differ-requires : goal.others_differ-requires
unfolding uses
others_differ-requires c =
    let n = length (axes_of c.args.e) in
    let h : between 1 n c.args.k.0 ≡ true =
    subst (λ (m : Move). axis_in (uses (Moves m)) n c.args.k.0 ≡ true) c.in-Put.is c.requires in
    (between-true n c.args.k.0 h).0

pub returns-in-Put : goal.returns-in-Put
returns-in-Put c = rw c.in-Put.is c.others_differ.ensures

pub returns-in-Glue : goal.returns-in-Glue
unfolding agree
returns-in-Glue c =
    let a = c.args in
    rw c.in-Glue.is
    (c.first_difference-in-Glue.ensures ∙ by-all-indices (OtherLimits a.k) (λ j. refl) a.m a.e a.n a.f)

pub returns-in-Trim : goal.returns-in-Trim
unfolding agree
returns-in-Trim c = rw c.in-Trim.is

pub returns-in-Slice : goal.returns-in-Slice
unfolding agree
returns-in-Slice c = rw c.in-Slice.is

pub returns-in-Reshape : goal.returns-in-Reshape
unfolding agree
returns-in-Reshape c = rw c.in-Reshape.is

pub returns-in-Shift : goal.returns-in-Shift
unfolding agree
returns-in-Shift c = rw c.in-Shift.is

pub returns-in-Rename : goal.returns-in-Rename
unfolding agree
returns-in-Rename c = rw c.in-Rename.is

pub first_difference-requires : goal.first_difference-requires
unfolding agree
first_difference-requires c = search rules

pub first_difference-requires-in-Glue : goal.first_difference-requires-in-Glue
unfolding agree
first_difference-requires-in-Glue c = search rules
