-- `stretch::glue_judged` meets its contract: each way out by the paper's tests up to it.
use Rattle.std.proofs.Common.{◌≡◌, sym, ap, ◌∙◌, true, List, arith, eq-eqb, ne_eqb, length}
use borrow.Author.Tests.{not-true, not-false}
use Rattle.paper.specs.declared.Name.{Name}
use Rattle.paper.specs.declared.Axis.{Axis}
use Rattle.paper.specs.declared.Move.TheVariants.{Glue}
use Rattle.paper.specs.declared.Operation.TheVariants.{Moves}
use Rattle.paper.specs.Refusals.{between}
use Rattle.paper.specs.Recipe.{uses, glued}
use Rattle.paper.specs.Answers.{axes_of, names_for}
use Rattle.paper.specs.Stretch.{glue_tests}
use Rattle.laws.specs.Tests.{between-true}
use Rattle.laws.specs.Agreeing.{Agree}
use Rattle.laws.proofs.Glue.{Gluable, gluable}
use Rattle.std.specs.Option.{is_some}
use Rattle.paper.specs.Axes.{good_extent}
use Rattle.stretch.specs.Sides.{glued-some, glued-good}
use Rattle.stretch.proofs.glue_judged.Goals as goal
use Rattle.stretch.proofs.glue_judged.Goals.{After-good_extent, Else-d-ne0, Else-not-in_range, Start}

-- the axis index is in the left
inside : (c : Else-not-in_range) → let a = c.args in between 1 (length (axes_of a.left)) a.axis.0 ≡ true
inside c = rw (← c.rank_of.ensures.number) (sym c.in_range.ensures ∙ not-false _ c.if-not-in_range.false-raw)

-- and the axes agree
module _ (c : Else-d-ne0) where
  abbrev first : Else-not-in_range
  first = (goal.at.Else-d-ne0 c).Else-not-in_range

  abbrev s : Start
  s = (goal.at.Else-d-ne0 c).Start

  abbrev E : List Axis
  E = axes_of s.args.left

  abbrev F : List Axis
  F = axes_of s.args.right

  abbrev M : List Name
  M = names_for E s.args.left_names

  abbrev N : List Name
  N = names_for F s.args.right_names

  agree-told : Agree (Moves Glue) s.args.axis.0 M E N F
  agree-told = sym c.difference-d.ensures ∙ same
    where
      same : c.difference-d.result ≡ 0
      same = omega (arith, c.if-d-ne0.false)

  fits : Gluable s.args.axis.0 E F
  fits = let b = between-true _ _ (inside first) in gluable _ M N E F b.0 b.1 s.requires.small.sound agree-told

pub returns-then-not-in_range : goal.returns-then-not-in_range
unfolding glue_tests
returns-then-not-in_range c =
    let n = sym c.in_range.ensures ∙ not-true _ c.if-not-in_range.true-raw in
    record { said = λ bs cs. rw (c.refuse.ensures, ← c.rank_of.ensures.number, n) }

pub returns-then-left_kind-right_kind : goal.returns-then-left_kind-right_kind
unfolding glue_tests
returns-then-left_kind-right_kind c = record { said = λ bs cs. rw (c.refuse-then-left_kind-right_kind.ensures, inside (goal.at.returns-then-left_kind-right_kind c).Else-not-in_range, ne_eqb _ _ c.if-left_kind-right_kind.true) }

pub difference-d-requires : goal.difference-d-requires
unfolding uses
difference-d-requires c = inside (goal.at.difference-d-requires c).Else-not-in_range

pub returns-then-d-ne0 : goal.returns-then-d-ne0
unfolding glue_tests
returns-then-d-ne0 c =
    let n = sym c.difference-d.ensures in
    let t = eq-eqb _ _ c.if-left_kind-right_kind.false in
    record { said = λ bs cs. rw (c.refuse_at.ensures, inside (goal.at.returns-then-d-ne0 c).Else-not-in_range, t, n, ne_eqb _ 0 c.if-d-ne0.true) }

pub glued_along-requires : goal.glued_along-requires
glued_along-requires c =
    record { one = (fits c).one; last = (fits c).first; first = (s c).requires.small.sound; second = (s c).requires.small_2.sound }

-- the glued extent is judged by the left's names
module _ (c : After-good_extent) where
  abbrev p : Else-d-ne0
  p = (goal.at.After-good_extent c).Else-d-ne0

  abbrev G : List Axis
  G = glued (s p).args.axis.0 (E p) (F p)

  counted : is_some c.good_extent.result ≡ good_extent (M p) G
  counted = ap is_some c.good_extent.ensures ∙ glued-good (s p).args.left_names (fits p) c.glued_along.ensures

pub returns-then-is_none : goal.returns-then-is_none
unfolding glue_tests
returns-then-is_none c =
    let s = (goal.at.returns-then-is_none c).After-good_extent in
    let q = p s in
    let t = eq-eqb _ _ q.if-left_kind-right_kind.false in
    let g = sym (counted s) ∙ c.if-is_none.ensures in
    record {
      said = λ bs cs. rw (c.refuse-then-is_none.ensures, inside (first q), t, agree-told q, glued-some (fits q), g);
    }

pub returns : goal.returns
unfolding glue_tests
returns c =
    let s = (goal.at.returns c).After-good_extent in
    let q = p s in
    let t = eq-eqb _ _ q.if-left_kind-right_kind.false in
    let g = sym (counted s) ∙ c.if-is_none.ensures in
    record {
      said = λ bs cs. rw (inside (first q), t, agree-told q, glued-some (fits q), g);
    }
