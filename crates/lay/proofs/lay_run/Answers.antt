-- `lay::lay_run` meets its contract: no cell, or those that `lay_cells` lays.
use Rattle.std.proofs.Common.{arith}
use Rattle.lay.specs.Lay.{no_run}
use Rattle.lay.proofs.lay_run.Goals as goal

pub returns-then-run-eq0 : goal.returns-then-run-eq0
returns-then-run-eq0 c v = no_run v c.if-run-eq0.true

pub lay_cells-requires : goal.lay_cells-requires
lay_cells-requires c = record { lays = c.requires; le_length = omega (arith, c.if-run-eq0.false) }

pub returns : goal.returns
returns c v = c.lay_cells.ensures v
