-- `recipe::steps::finish` meets its contract: 9, or the result.
use Rattle.std.proofs.Common.{ℕ, Option, ◌≡◌, refl, sym, ap, ap₂, ◌∙◌, List, map, length, rules, arith}
use Rattle.paper.specs.declared.Name.{Name}
use Rattle.paper.specs.declared.Axis.{Axis}
use Rattle.paper.specs.Limits.{most_axes}
use Rattle.paper.specs.Axes.{star, shaped}
use Rattle.paper.specs.Answers.{axes_of, names_for}
use Rattle.laws.specs.Answers.{axes-few}
use Rattle.laws.specs.Loops.{length-mapped}
use Rattle.extent.specs.Judged.{good_cells}
use Rattle.recipe.specs.Stepped.{names_after, axes_after, names-after, finish-bad, finish-none, finish-good}
use Rattle.recipe.proofs.steps.finish.Goals as goal
use Rattle.recipe.proofs.steps.finish.Goals.{After-good_extent, Start}

-- the result's axes, and its cells where they are good
module _ (c : After-good_extent) where
  abbrev start : Start
  start = (goal.at.After-good_extent c).Start

  abbrev E : List Axis
  E = axes_after start.args.s.now start.args.step start.args.a start.args.b

  abbrev N : List Name
  N = names_after start.args.s.now start.args.step start.args.a

  full : length start.args.a.names ≡ most_axes
  full = search (rules, length-mapped, start.well_formed.1.0.1.1)

  told : axes_of c.result_extent-extent.result ≡ E
  told = c.result_extent-extent.ensures

  named : names_for (axes_of c.result_extent-extent.result) c.result_names-names.result ≡ N
  named =
      names-after start.args.s.now start.args.step start.args.a start.args.b c.result_names-names.result
      c.result_extent-extent.result c.result_names-names.ensures told
      (omega (arith, full, axes-few start.args.a.extent)) start.requires.axis

  counted : {o : Option ℕ} → o ≡ good_cells (names_for (axes_of c.result_extent-extent.result) c.result_names-names.result)
      (axes_of c.result_extent-extent.result) → o ≡ good_cells N E
  counted e = e ∙ ap₂ good_cells named told

pub returns-in_default : goal.returns-in_default
returns-in_default c =
    let s = (goal.at.returns-in_default c).After-good_extent in
    let p = (start s).args in
    rw c.refuse.ensures (finish-bad p.s.now p.step p.a p.b p.at p.k.0 (counted s c.in_default.ensures))

pub returns-then-rank_of-eq0 : goal.returns-then-rank_of-eq0
returns-then-rank_of-eq0 c =
    let s = (goal.at.returns-then-rank_of-eq0 c).After-good_extent in
    let p = (start s).args in
    rw c.refuse-then-rank_of-eq0.ensures
    (finish-none p.s.now p.step p.a p.b p.at p.k.0 (ap length (sym (told s)) ∙ sym c.rank_of.ensures.number ∙ c.if-rank_of-eq0.true))

pub returns : goal.returns
returns c =
    let s = (goal.at.returns c).After-good_extent in
    let p = (start s).args in
    let q : axes_of c.starred-maximum.result ≡ map star (E s) = c.starred-maximum.ensures ∙ ap (map star) (told s) in
    finish-good p.s.now p.step p.a p.b p.at p.k.0 _ refl
    (start s).requires (λ i. shaped (c.result_kind-kind.ensures i) (named s i) (told s i) (q i)) (counted s c.in-Some.ensures)
    (λ z. c.if-rank_of-eq0.false (c.rank_of.ensures.number ∙ ap length (told s) ∙ z))
