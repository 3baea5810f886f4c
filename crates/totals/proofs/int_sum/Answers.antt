-- `totals::int_sum` meets its contract.
use Rattle.std.proofs.Common.{arith, drop, rules}
use Rattle.laws.specs.Judged.{length-cells}
use Rattle.totals.specs.Folds.{folds-as}
use Rattle.totals.specs.Cells.{cells_at}
use Rattle.totals.specs.Sums.{exact-folds}
use Rattle.totals.proofs.int_sum.Goals as goal

pub returns : goal.returns
returns c =
    let a = c.args in
    λ k. c.exact_answer.ensures k _
    (exact-folds (cells_at a.s.now a.at a.kind a.n) 1 _ _ _ (folds-as (λ t x r p. search rules) _ _ _ c.over_cells.ensures)
    c.exact_none.ensures (omega (arith, c.requires.few, length-cells a.kind a.n (drop a.at a.s.now))))
