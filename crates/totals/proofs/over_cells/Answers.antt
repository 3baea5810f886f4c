-- `totals::over_cells` meets its contract.
use Rattle.std.proofs.Common.{arith}
use Rattle.totals.specs.Folds.{folds-next, folds-end}
use Rattle.totals.proofs.over_cells.Goals as goal

pub loop-i-init : goal.loop-i-init
loop-i-init g c = λ last f. f

pub loop-i-preserved : goal.loop-i-preserved
loop-i-preserved g c =
    let a = c.args in
    let l = c.loop-i in
    λ last f. l.invariant last
    (folds-next (λ t x r. goal.F-post g a.next t x r) a.s.now a.at a.kind a.n l.i c.loop-i-test.true l.t c.next-t.result last
    (rw c.held_cell.ensures at c.next-t.ensures) f)

pub returns : goal.returns
returns g c =
    let a = c.args in
    let l = c.loop-i in
    l.invariant _ (folds-end (λ t x r. goal.F-post g a.next t x r) a.s.now a.at a.kind a.n l.i (omega arith) l.t)

pub held_cell-requires : goal.held_cell-requires
held_cell-requires g c = omega (arith, c.requires.lying.room, c.requires.lying.few)
