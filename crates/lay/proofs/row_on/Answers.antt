-- `lay::row_on` meets its contract: the turns leave less than four cells, so the last four begin at or before their end.
use Rattle.std.proofs.Common.{◌-◌, ◌*◌, ◌/◌, arith}
use Rattle.paper.specs.Limits.{cell_bytes}
use Rattle.lay.specs.Lay.{copied_on, turn_bytes, last_cells}
use Rattle.lay.proofs.row_on.Goals as goal

pub returns : goal.returns
returns c =
    let n = c.args.n in
    copied_on c.args.d.now c.args.from c.args.at ((n - last_cells) * cell_bytes)
    (n * cell_bytes / turn_bytes * turn_bytes) (4 * cell_bytes) (n * cell_bytes)
    (omega (arith, c.requires)) (omega (arith, c.requires)) (omega (arith, c.requires)) c.requires.1 c.requires.2 c.copy_on.ensures
    c.four_on.ensures
