-- `extent::cells_of` meets its contract.
-- From the last axis to the first: n is the number of cells of the axes done. Where some axes have too many, all have.
use Rattle.std.proofs.Common.{◌*◌, ◌-◌, ◌<◌, ◌≤◌, ap, ap₂, subst, sym, ◌∙◌, ◌≡◌, mul_comm, arith, le-leb, drop, take, Some}
use borrow.Author.Tests.{lt-leb}
use Rattle.laws.specs.Limits.{Sound, cells-drop}
use Rattle.laws.specs.Loops.{cells-down, cells-none, drop-none, product_le, sound-first}
use Rattle.paper.specs.Answers.{axes_of}
use Rattle.paper.specs.Axes.{cells, no_axis}
use Rattle.paper.specs.Limits.{most_cells}
use Rattle.extent.proofs.cells_of.Goals as goal
use Rattle.extent.proofs.cells_of.Goals.{After-rank_of-rank, After-width_of-n}

sound : (c : After-rank_of-rank) → Sound (take c.rank_of-rank.result c.args.e.axes)
sound c = subst Sound (sym c.rank_of-rank.ensures.first) c.requires

module _ (c : After-width_of-n) where
  turn : c.loop-i.n * c.width_of-n.result ≡ cells (drop (c.loop-i.i - 1) (take c.rank_of-rank.result c.args.e.axes))
  turn =
      let l = c.loop-i in
      ap₂ ◌*◌ l.invariant.0 c.width_of-n.ensures.0 ∙ mul_comm _ _ ∙ sym (cells-down c.args.e.axes c.rank_of-rank.result c.rank_of-rank.ensures.room l.i no_axis (omega arith) (omega arith))

pub loop-i-init : goal.loop-i-init
loop-i-init c = (cells-none c.args.e.axes c.rank_of-rank.result c.rank_of-rank.ensures.room, omega arith)

pub width_of-n-requires : goal.width_of-n-requires
width_of-n-requires c =
    let s = c.before.before.before in
    sound-first s.args.e.axes s.rank_of-rank.result s.rank_of-rank.ensures.room (c.loop-i.i - 1) no_axis (sound s) (omega arith)

pub overflow_mul-n : goal.overflow_mul-n
overflow_mul-n c = omega (arith, product_le c.loop-i.invariant.1 c.width_of-n.ensures.1)

pub returns-then-n-gt-CELLS : goal.returns-then-n-gt-CELLS
returns-then-n-gt-CELLS c =
    let s = c.before.before.before.before.before in
    let m : most_cells < cells (axes_of s.args.e) =
    omega (arith, turn c.before, cells-drop (take s.rank_of-rank.result s.args.e.axes) (c.loop-i.i - 1) (sound s), ap cells s.rank_of-rank.ensures.first) in
    rw (lt-leb _ _ m)

pub loop-i-preserved : goal.loop-i-preserved
loop-i-preserved c = (turn c.before, omega arith)

pub returns : goal.returns
returns c =
    let l = c.loop-i in
    let s = c in
    let e = ap cells (drop-none (take s.rank_of-rank.result s.args.e.axes) l.i (omega arith) ∙ s.rank_of-rank.ensures.first) in
    let n : cells (axes_of s.args.e) ≤ most_cells = omega (arith, e) in
    rw (le-leb _ _ n) (ap Some (l.invariant.0 ∙ e))
