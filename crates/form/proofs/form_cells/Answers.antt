-- `form::form_cells` meets its contract: each way out by the paper's tests up to it.
use Rattle.std.proofs.Common.{◌≡◌, sym, ap, ◌∙◌, Bool, true, false, ◌&&◌, List, length, Ok}
use Rattle.paper.specs.declared.Name.{Name}
use Rattle.paper.specs.declared.Axis.{Axis}
use Rattle.paper.specs.Limits.{sizes_of}
use Rattle.paper.specs.Refusals.{between}
use Rattle.paper.specs.Bundle.{names_fit}
use Rattle.paper.specs.Cells.{is_type}
use Rattle.paper.specs.Answers.{axes_of, names_for}
use Rattle.laws.specs.Tests.{and_none}
use Rattle.extent.specs.Judged.{good-none, good-some}
use Rattle.form.specs.Judged.{form_cells}
use Rattle.form.proofs.form_cells.Goals as goal
use Rattle.form.proofs.form_cells.Goals.{After-names_fit, then-not-in_range-via-then-not-in_range, then-not-in_range-via-else-not-in_range+then-not-in_range-2}

pub returns-then-not-in_range : goal.returns-then-not-in_range
unfolding form_cells
returns-then-not-in_range c =
    let a = c.args in
    let bad : (is_type a.kind && between 1 (sizes_of a.v).axes (length (axes_of a.e))) ≡ false =
    elim c.then-not-in_range.branch [
      | then-not-in_range-via-then-not-in_range w ↦ rw (sym c.in_range.ensures ∙ w.if-not-in_range.true)
      | then-not-in_range-via-else-not-in_range+then-not-in_range-2 w ↦
          rw (← c.rank_of-rank.ensures.number, ← w.sizes.ensures, sym w.in_range-else-not-in_range.ensures ∙ w.if-not-in_range-2.true)
          (and_none _)
    ] in
    rw (c.refuse.ensures, bad)

-- the type and the axis count are good
module _ (c : After-names_fit) where
  abbrev E : List Axis
  E = axes_of c.args.e

  abbrev N : List Name
  N = names_for E c.args.names

  counted : (is_type c.args.kind && between 1 (sizes_of c.args.v).axes (length E)) ≡ true
  counted =
      rw (sym c.in_range.ensures ∙ c.if-not-in_range.false, ← c.rank_of-rank.ensures.number, ← c.sizes.ensures)
      (sym c.in_range-else-not-in_range.ensures ∙ c.if-not-in_range-2.false)

  named : {b : Bool} → c.names_fit.result ≡ b → names_fit (sizes_of c.args.v) N ≡ b
  named e = rw (← c.rank_of-rank.ensures.number) (sym c.names_fit.ensures ∙ e)

pub names_fit-requires : goal.names_fit-requires
names_fit-requires c = c.rank_of-rank.ensures.few

pub returns-then-not-names_fit : goal.returns-then-not-names_fit
unfolding form_cells
returns-then-not-names_fit c =
    let s = (goal.at.returns-then-not-names_fit c).After-names_fit in
    rw (c.refuse-then-not-names_fit.ensures, counted s, named s c.if-not-names_fit.true)

pub returns-in_default : goal.returns-in_default
unfolding form_cells
returns-in_default c =
    let s = (goal.at.returns-in_default c).After-names_fit in
    let g = good-none (N s) (E s) (sym c.in_default.ensures) in
    rw (c.refuse-in_default.ensures, counted s, named s c.if-not-names_fit.false, g)

pub returns : goal.returns
unfolding form_cells
returns c =
    let s = (goal.at.returns c).After-names_fit in
    let g = good-some (N s) (E s) c.in-Some.ensures in
    rw (counted s, named s c.if-not-names_fit.false, g.0) (ap Ok (sym g.1))
