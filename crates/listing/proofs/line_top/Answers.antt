-- `listing::line_top` meets its contract: the last axis is one of the extent's, whose limits are in range.
use Rattle.std.proofs.Common.{◌-◌, ◌*◌, ◌≤◌, ◌≡◌, ap, arith}
use Rattle.paper.specs.declared.Axis.{Axis}
use Rattle.paper.specs.Answers.{axes_of}
use Rattle.paper.specs.Axes.{no_axis, axis_at}
use Rattle.paper.specs.Limits.{reach}
use Rattle.laws.specs.Limits.{sound-at}
use Rattle.extent.specs.Rank.{axis_no, axis-first}
use Rattle.listing.proofs.line_top.Goals as goal
use Rattle.listing.proofs.line_top.Goals.{Else-rank-eq0}

-- the last axis
module _ (c : Else-rank-eq0) where
  same : (axis_no c.args.e (c.args.rank - 1)).hi ≡ (axis_at c.args.rank (axes_of c.args.e)).hi
  same =
      let a = c.args in
      ap (λ (x : Axis). x.hi) (axis-first a.e a.rank c.requires.1 (a.rank - 1) (omega (arith, c.if-rank-eq0.false)))

  upto : (axis_no c.args.e (c.args.rank - 1)).hi ≤ 2 * reach
  upto =
      let a = c.args in
      omega (
        arith,
        same,
        sound-at (axes_of a.e) (a.rank - 1) no_axis c.requires.0.sound
            (omega (arith, c.if-rank-eq0.false, c.requires.1.number)),
      )

pub overflow_add-result : goal.overflow_add-result
overflow_add-result c = record { fits = omega (arith, upto (goal.at.overflow_add-result c).Else-rank-eq0) }

pub returns : goal.returns
returns c =
    let s = (goal.at.returns c).Else-rank-eq0 in
    record { some = omega arith; few = omega (arith, upto s); last = λ b. omega (arith, same s) }
