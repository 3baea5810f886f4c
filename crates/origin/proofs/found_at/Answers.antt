-- `origin::found_at` meets its contract: the positions of the coordinate are the same beside both extents, and the test picks the case.
use Rattle.std.proofs.Common.{ℕ, ◌+◌, ◌-◌, ◌≡◌, ap, sym, ◌∙◌, List, arith, take}
use borrow.Author.Tests.{not-true, not-false}
use Rattle.laws.specs.Places.{inside-true}
use Rattle.paper.specs.declared.Axis.{Axis}
use Rattle.paper.specs.Answers.{axes_of}
use Rattle.paper.specs.Axes.{at_offset}
use Rattle.place.specs.Positions.{positions_of}
use Rattle.origin.specs.Origins.{found_at, found_none}
use Rattle.origin.proofs.found_at.Goals as goal
use Rattle.origin.proofs.found_at.Goals.{After-coordinate_of-p}

module _ (c : After-coordinate_of-p) where
  abbrev E : List Axis
  E = axes_of c.args.e

  abbrev p : List ℕ
  p = positions_of E c.coordinate_of-p.result

  -- the coordinate beside the other extent is cell k's
  there : p ≡ at_offset (axes_of c.args.t) c.args.k
  there =
      let n : c.args.k + 1 - 1 ≡ c.args.k = omega arith in
      ap (λ (r : ℕ). take r c.coordinate_of-p.result.at) c.requires.same ∙ c.coordinate_of-p.ensures ∙ ap (at_offset _) n

pub returns-then-not-is_inside : goal.returns-then-not-is_inside
returns-then-not-is_inside c =
    let s = (goal.at.returns-then-not-is_inside c).After-coordinate_of-p in
    rw (← there s) (found_none (E s) (p s) (sym c.is_inside.ensures ∙ not-true _ c.if-not-is_inside.true-raw))

pub ordinality_of-o-requires : goal.ordinality_of-o-requires
ordinality_of-o-requires c =
    let s = (goal.at.ordinality_of-o-requires c).After-coordinate_of-p in
    record { small = c.requires.there; inside = inside-true (E s) (p s) (sym c.is_inside.ensures ∙ not-false _ c.if-not-is_inside.false-raw) }

pub returns : goal.returns
returns c =
    let s = (goal.at.returns c).After-coordinate_of-p in
    let i = sym c.is_inside.ensures ∙ not-false _ c.if-not-is_inside.false-raw in
    rw (← there s) (found_at (E s) (p s) _ i c.ordinality_of-o.ensures)
