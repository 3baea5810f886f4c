-- `extent::extent_cells` meets its contract: the extent lies inside its maximum, or not.
use Rattle.std.proofs.Common.{◌∙◌, ◌≡◌, sym, rules}
use borrow.Author.Tests.{not-false, not-true}
use Rattle.paper.specs.Answers.{axes_of, names_for}
use Rattle.paper.specs.Axes.{axis_within, within}
use Rattle.extent.specs.Judged.{by-within, not_within}
use Rattle.extent.proofs.extent_cells.Goals as goal
use Rattle.extent.proofs.extent_cells.Goals.{After-all_meet}

told : (c : After-all_meet) → within (axes_of c.args.e) (axes_of c.args.maximum) ≡ c.all_meet.result
told c = sym (c.all_meet.ensures axis_within (λ a b r p. search rules))

pub returns-then-not-all_meet : goal.returns-then-not-all_meet
returns-then-not-all_meet c =
    not_within (names_for (axes_of c.args.e) c.args.names) (axes_of c.args.e) (axes_of c.args.maximum)
    (told (goal.at.returns-then-not-all_meet c).After-all_meet ∙ not-true _ c.if-not-all_meet.true-raw)

pub returns : goal.returns
returns c =
    c.good_extent.ensures
    ∙ by-within (names_for (axes_of c.args.e) c.args.names) (axes_of c.args.e) (axes_of c.args.maximum)
    (told (goal.at.returns c).After-all_meet ∙ not-false _ c.if-not-all_meet.false-raw)
