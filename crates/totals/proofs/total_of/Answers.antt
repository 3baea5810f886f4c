-- `totals::total_of` meets its contract.
use Rattle.std.proofs.Common.{eq-eqb, ne_eqb}
use Rattle.paper.specs.Totals.{total_of}
use Rattle.totals.specs.Cells.{counted-true, counted-filled}
use Rattle.totals.proofs.total_of.Goals as goal

pub count_cells-requires : goal.count_cells-requires
unfolding total_of
count_cells-requires c = c.requires

pub count_cells-requires-in-Trues : goal.count_cells-requires-in-Trues
unfolding total_of
count_cells-requires-in-Trues c = c.requires

pub best_cell-requires : goal.best_cell-requires
unfolding total_of
best_cell-requires c = c.requires

pub best_cell-requires-in-Largest : goal.best_cell-requires-in-Largest
unfolding total_of
best_cell-requires-in-Largest c = c.requires

pub int_total-requires : goal.int_total-requires
unfolding total_of
int_total-requires c = c.requires

pub float_total-requires : goal.float_total-requires
unfolding total_of
float_total-requires c = c.requires

pub float_total-requires-in-Average : goal.float_total-requires-in-Average
unfolding total_of
float_total-requires-in-Average c = c.requires

pub returns-in-Filled : goal.returns-in-Filled
unfolding total_of
returns-in-Filled c = rw (c.in-Filled.is, c.count_cells.ensures, counted-filled 1)

pub returns-in-Trues : goal.returns-in-Trues
unfolding total_of
returns-in-Trues c = rw (c.in-Trues.is, c.count_cells-in-Trues.ensures, counted-true 1)

pub returns-in-Smallest : goal.returns-in-Smallest
unfolding total_of
returns-in-Smallest c = rw (c.in-Smallest.is, c.best_cell.ensures)

pub returns-in-Largest : goal.returns-in-Largest
unfolding total_of
returns-in-Largest c = rw (c.in-Largest.is, c.best_cell-in-Largest.ensures)

pub returns-then-kind-eq-INT : goal.returns-then-kind-eq-INT
unfolding total_of
returns-then-kind-eq-INT c = rw (c.in-Sum.is, eq-eqb _ 1 c.if-kind-eq-INT.true) c.int_total.ensures

pub returns-else-kind-eq-INT : goal.returns-else-kind-eq-INT
unfolding total_of
returns-else-kind-eq-INT c = rw (c.in-Sum.is, ne_eqb _ 1 c.if-kind-eq-INT.false) c.float_total.ensures

pub returns-in-Average : goal.returns-in-Average
unfolding total_of
returns-in-Average c = rw c.in-Average.is c.float_total-in-Average.ensures
