-- `stretch::part_of` meets its contract: the part lies in its buffer, and is cut out of it.
use Rattle.std.proofs.Common.{◌≡◌, arith, length}
use Rattle.paper.specs.declared.Part.{Part}
use Rattle.paper.specs.Stretch.{handed_out}
use Rattle.stretch.specs.Turns.{InBuffer}
use Rattle.stretch.proofs.part_of.Goals as goal
use Rattle.stretch.proofs.part_of.Goals.{Start}

inside : (c : Start) {x : Part} → c.args.p ≡ x → InBuffer (length c.args.left.now) (length c.args.right.now) x
inside c e = rw (← e) c.requires

pub returns-in-Left : goal.returns-in-Left
unfolding handed_out
returns-in-Left c = λ L R l r. rw (c.in-Left.is, l)

pub returns-in-Right : goal.returns-in-Right
unfolding handed_out
returns-in-Right c = λ L R l r. rw (c.in-Right.is, r)

pub slice_bounds-result-count : goal.slice_bounds-result-count
slice_bounds-result-count c = omega (arith, inside (goal.at.slice_bounds-result-count c).Start c.in-Left.is)

pub slice_bounds-result-start : goal.slice_bounds-result-start
slice_bounds-result-start c = omega (arith, inside (goal.at.slice_bounds-result-start c).Start c.in-Left.is)

pub slice_bounds-result-end : goal.slice_bounds-result-end
slice_bounds-result-end c = omega (arith, inside (goal.at.slice_bounds-result-end c).Start c.in-Left.is)

pub slice_bounds-result-count-in-Right : goal.slice_bounds-result-count-in-Right
slice_bounds-result-count-in-Right c = omega (arith, inside (goal.at.slice_bounds-result-count-in-Right c).Start c.in-Right.is)

pub slice_bounds-result-start-in-Right : goal.slice_bounds-result-start-in-Right
slice_bounds-result-start-in-Right c = omega (arith, inside (goal.at.slice_bounds-result-start-in-Right c).Start c.in-Right.is)

pub slice_bounds-result-end-in-Right : goal.slice_bounds-result-end-in-Right
slice_bounds-result-end-in-Right c = omega (arith, inside (goal.at.slice_bounds-result-end-in-Right c).Start c.in-Right.is)
