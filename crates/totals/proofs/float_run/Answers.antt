-- `totals::float_run` meets its contract.
use Rattle.std.proofs.Common.{◌≡◌, List, arith, ◌+◌, ◌<◌, ℕ}
use Rattle.std.proofs.lemmas.Result.{err_from_is_err_and}
use Rattle.paper.specs.Limits.{most_cells}
use Rattle.paper.specs.Totals.{Numbered}
use Rattle.totals.specs.Cells.{in_front, filled_left, filled_next, filled_none}
use Rattle.totals.specs.Sums.{going_next, going-fails}
use Rattle.totals.proofs.float_run.Goals as goal
use Rattle.totals.proofs.float_run.Goals.{After-mean_next}

pub loop-i-init : goal.loop-i-init
loop-i-init c = record { same = λ made k. c.mean_none-mean.ensures.0 made k _; few = omega (arith, c.mean_none-mean.ensures.1) }

-- the next cell is added
module _ (c : After-mean_next) where
  abbrev left : ℕ → List Numbered
  left = filled_left c.args.s.now c.args.at c.args.kind c.args.n

  few : c.loop-i.i < most_cells
  few = omega (arith, c.requires.few)

  next : left c.loop-i.i ≡ in_front c.held_cell.result (c.loop-i.i + 1) (left (c.loop-i.i + 1))
  next = rw c.held_cell.ensures (filled_next _ c.args.at c.args.kind c.args.n c.loop-i.i c.loop-i-test.true)

pub returns-in_err-mean : goal.returns-in_err-mean
returns-in_err-mean c =
    let s = (goal.at.returns-in_err-mean c).After-mean_next in
    let p = err_from_is_err_and c.from_residual.result c.from_residual.ensures.1 in
    let f = going-fails _ c.loop-i.invariant (few s) (next s) c.mean_next.ensures c.in_err-mean.ensures.value in
    rw (p.1, p.2) (f.0, omega (arith, f.1))

pub loop-i-preserved : goal.loop-i-preserved
loop-i-preserved c =
    let s = (goal.at.loop-i-preserved c).After-mean_next in
    going_next _ c.loop-i.invariant (few s) (next s) c.mean_next.ensures c.in_ok-mean.ensures.value

pub returns : goal.returns
returns c =
    let a = c.args in
    let l = c.loop-i in
    let e = filled_none a.s.now a.at a.kind a.n l.i (omega arith) in
    λ made k. rw e at (l.invariant.same made k)

pub held_cell-requires : goal.held_cell-requires
held_cell-requires c = omega (arith, c.requires.room, c.requires.few)
