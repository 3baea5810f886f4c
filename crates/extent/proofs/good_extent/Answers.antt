-- `extent::good_extent` meets its contract.
-- The tests in the paper's order; the number of cells is the last.
use Rattle.std.proofs.Common.{ℕ, true, List, ap, sym, ◌∙◌, ◌≡◌, take}
use borrow.Author.Tests.{not-false, not-true}
use Rattle.laws.specs.Limits.{limits-true}
use Rattle.extent.specs.Judged.{bad-limits, bad-names, by-cells}
use Rattle.paper.specs.declared.Name.{Name}
use Rattle.paper.specs.declared.Axis.{Axis}
use Rattle.paper.specs.Axes.{good_limits, good_names}
use Rattle.paper.specs.Answers.{axes_of, names_for}
use Rattle.extent.proofs.good_extent.Goals as goal
use Rattle.extent.proofs.good_extent.Goals.{After-good_limits, After-good_names}

module _ (c : After-good_names) where
  abbrev E : List Axis
  E = axes_of c.args.e

  abbrev N : List Name
  N = names_for E c.args.names

  names-told : good_names N ≡ c.good_names.result
  names-told =
      ap (λ (r : ℕ). good_names (take r c.args.names)) (sym c.rank_of.ensures.number)
      ∙ sym c.good_names.ensures

module _ (c : After-good_limits) where
  limits-told : good_limits (E c.before.before) ≡ c.good_limits.result
  limits-told = sym c.good_limits.ensures

  names-good : good_names (N c.before.before) ≡ true
  names-good = names-told c.before.before ∙ not-false _ c.if-not-good_names.false-raw

pub returns-then-not-good_names : goal.returns-then-not-good_names
returns-then-not-good_names c = bad-names (N c.before) (E c.before) (names-told c.before ∙ not-true _ c.if-not-good_names.true-raw)

pub returns-then-not-good_limits : goal.returns-then-not-good_limits
returns-then-not-good_limits c =
    let l = c.before in
    bad-limits (N l.before.before) (E l.before.before) (names-good l) (limits-told l ∙ not-true _ c.if-not-good_limits.true-raw)

pub cells_of-requires : goal.cells_of-requires
cells_of-requires c = limits-true (E c.before.before.before) (limits-told c.before ∙ not-false _ c.if-not-good_limits.false-raw)

pub returns : goal.returns
returns c =
    let l = (goal.at.returns c).After-good_limits in
    c.cells_of.ensures ∙ by-cells (N l.before.before) (E l.before.before) (names-good l) (limits-told l ∙ not-false _ c.if-not-good_limits.false-raw)

pub good_names-requires : goal.good_names-requires
good_names-requires c = c.rank_of.ensures.few
