-- `shape::glued_along` meets its contract.
-- The store puts the longer axis in its place; both limits are in range, so the sum fits.
use Rattle.std.proofs.Common.{◌-◌, ◌<◌, ap, arith}
use Rattle.laws.specs.Answers.{axes-few}
use Rattle.extent.specs.Tests.{sound-axis}
use Rattle.paper.specs.Answers.{axes_of}
use Rattle.paper.specs.Limits.{most_axes}
use Rattle.paper.specs.declared.Axis.{Axis}
use Rattle.shape.specs.Joined.{glued-told}
use Rattle.shape.proofs.glued_along.Goals as goal
use Rattle.shape.proofs.glued_along.Goals.{Start}

few : (c : Start) → c.args.k.0 - 1 < most_axes
few c = omega (arith, axes-few c.args.e, c.requires.one, c.requires.last)

pub width_of-requires : goal.width_of-requires
width_of-requires c = rw c.axis_of-b.ensures (sound-axis (axes_of c.args.f) (c.args.k.0 - 1) c.requires.second)

pub overflow_add-hi : goal.overflow_add-hi
overflow_add-hi c =
    let r = sound-axis (axes_of c.args.e) (c.args.k.0 - 1) c.requires.first in
    omega (arith, r, ap (λ (a : Axis). a.hi) c.axis_of-a.ensures, c.width_of.ensures.1)

pub overflow_sub-i : goal.overflow_sub-i
overflow_sub-i c = omega (arith, c.requires.one)

pub bounds-new-i : goal.bounds-new-i
bounds-new-i c = few (goal.at.bounds-new-i c).Start

pub returns : goal.returns
returns c =
    let s = c in
    let w = c in
    glued-told s.args.e (axes_of s.args.f) s.args.k.0 s.requires.one s.requires.last w.axis_of-a.result w.axis_of-b.result w.width_of.result
    w.axis_of-a.ensures w.axis_of-b.ensures w.width_of.ensures.0
