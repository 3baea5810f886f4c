-- `json_write::marks_of` meets its contract: from the last axis to the first, n is the marks of the axes done.
use Rattle.std.proofs.Common.{ℕ, ◌+◌, ◌-◌, ◌*◌, ◌≤◌, List, ◌≡◌, ap, ap₂, ◌∙◌, arith, drop, take, length-drop, length-take}
use Rattle.paper.specs.declared.Axis.{Axis}
use Rattle.laws.specs.Limits.{Sound, cells-drop, sound-drop}
use Rattle.laws.specs.Loops.{drop-first, drop-down, drop-none, sound-first}
use Rattle.paper.specs.Axes.{cells, no_axis}
use Rattle.paper.specs.Limits.{most_axes, most_cells}
use Rattle.json_write.specs.Lengths.{marks, marks-few}
use Rattle.json_write.proofs.marks_of.Goals as goal
use Rattle.json_write.proofs.marks_of.Goals.{After-rank_of-rank, After-width_of-w}

-- the axes are counted
module _ (c : After-rank_of-rank) where
  sound : Sound (take c.rank_of-rank.result c.args.e.axes)
  sound = rw c.rank_of-rank.ensures.first c.requires.0

-- one axis more
module _ (c : After-width_of-w) where
  abbrev E : List Axis
  E = take c.rank_of-rank.result c.args.e.axes

  abbrev i : ℕ
  i = c.loop-i.i - 1

  turn : 1 + c.width_of-w.result + c.width_of-w.result * c.loop-i.n ≡ marks (drop i E)
  unfolding marks
  turn =
      ap₂ (λ (w n : ℕ). 1 + w + w * n) c.width_of-w.ensures.0 c.loop-i.invariant
      ∙ rw (drop-down c.args.e.axes c.rank_of-rank.result c.rank_of-rank.ensures.room c.loop-i.i no_axis (omega arith) (omega arith))

  few : marks (drop i E) ≤ 2 * (most_axes * most_cells)
  few =
      let r = c.rank_of-rank.ensures in
      let s = sound (goal.at.After-width_of-w c).After-rank_of-rank in
      marks-few (drop i E) (sound-drop E i s) (simp (length-drop, length-take) (omega (arith, r.few)))
      (omega (arith, cells-drop E i s, ap cells r.first, c.requires.1))

pub loop-i-init : goal.loop-i-init
unfolding marks
loop-i-init c = (rw (drop-first c.args.e.axes c.rank_of-rank.result c.rank_of-rank.ensures.room))

pub width_of-w-requires : goal.width_of-w-requires
width_of-w-requires c =
    let s = sound (goal.at.width_of-w-requires c).After-rank_of-rank in
    sound-first c.args.e.axes c.rank_of-rank.result c.rank_of-rank.ensures.room (c.loop-i.i - 1) no_axis s (omega arith)

pub overflow_add-n : goal.overflow_add-n
overflow_add-n c = omega (arith, turn c, few c)

pub overflow_mul-n : goal.overflow_mul-n
overflow_mul-n c = omega (arith, turn c, few c)

pub overflow_add-n-in-loop-i : goal.overflow_add-n-in-loop-i
overflow_add-n-in-loop-i c = omega (arith, turn c, few c)

pub loop-i-preserved : goal.loop-i-preserved
loop-i-preserved c = turn c

pub returns : goal.returns
returns c =
    let v = c.loop-i in
    v.invariant ∙ ap marks (drop-none (take c.rank_of-rank.result c.args.e.axes) v.i (omega arith) ∙ c.rank_of-rank.ensures.first)
