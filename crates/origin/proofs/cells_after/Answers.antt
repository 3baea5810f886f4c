-- `origin::cells_after` meets its contract: from the last axis to the first, n is the number of cells of the axes done.
use Rattle.std.proofs.Common.{ℕ, ◌+◌, ◌*◌, ◌-◌, ◌≡◌, ap₂, mul_comm, ◌∙◌, arith, drop}
use Rattle.paper.specs.declared.Extent.{Extent}
use Rattle.paper.specs.Answers.{axes_of}
use Rattle.paper.specs.Axes.{cells}
use Rattle.laws.specs.Limits.{cells-drop, cells-pos, sound-drop}
use Rattle.extent.specs.Rank.{axes-up, axes-end}
use Rattle.origin.proofs.cells_after.Goals as goal
use Rattle.origin.proofs.cells_after.Goals.{After-rank_of-i, After-width_of-n}

module _ (c : After-rank_of-i) where
  abbrev e : Extent
  e = c.args.e

  ends : 1 ≡ cells (drop c.rank_of-i.result (axes_of e))
  unfolding cells
  ends = rw (axes-end e _ c.rank_of-i.ensures c.rank_of-i.result (omega arith))

pub loop-i-init : goal.loop-i-init
loop-i-init c = (omega (arith, c.rank_of-i.ensures.number), ends c)

pub width_of-n-requires : goal.width_of-n-requires
width_of-n-requires c =
    let s = (goal.at.width_of-n-requires c).After-rank_of-i in
    let i = c.loop-i.i - 1 in
    let t = rw (axes-up (e s) _ c.rank_of-i.ensures i (omega arith)) at (sound-drop (axes_of (e s)) i c.requires.small.sound) in
    (t.0, t.1)

module _ (c : After-width_of-n) where
  abbrev s : After-rank_of-i
  s = c.before.before.before.before

  abbrev i : ℕ
  i = c.loop-i.i

  turn : c.loop-i.n * c.width_of-n.result ≡ cells (drop (i - 1) (axes_of (e s)))
  unfolding cells
  turn =
      let n : i - 1 + 1 ≡ i = omega arith in
      rw (axes-up (e s) _ s.rank_of-i.ensures (i - 1) (omega arith), n)
      (mul_comm _ _ ∙ ap₂ ◌*◌ c.width_of-n.ensures.0 c.loop-i.invariant.1)

pub overflow_mul-n : goal.overflow_mul-n
overflow_mul-n c =
    let d = s c in
    omega (arith, turn c, cells-drop (axes_of (e d)) (i c - 1) d.requires.small.sound, d.requires.small.few)

pub loop-i-preserved : goal.loop-i-preserved
loop-i-preserved c = (omega arith, turn c)

pub returns : goal.returns
returns c =
    let l = c.loop-i in
    let E = axes_of (e (goal.at.returns c).After-rank_of-i) in
    let small = c.requires.small in
    let b : l.i ≡ c.args.before = omega arith in
    let one = cells-pos (drop l.i E) (sound-drop E l.i small.sound) in
    let few = cells-drop E l.i small.sound in
    (rw (← b) l.invariant.1, omega (arith, l.invariant.1), omega (arith, l.invariant.1, small.few))
