-- `lay::copy_row` meets its contract: the turns leave less than four cells, so the last four begin at or before their end.
use Rattle.std.proofs.Common.{◌-◌, ◌*◌, ◌/◌, arith}
use Rattle.paper.specs.Limits.{cell_bytes}
use Rattle.laws.specs.Put.{copied}
use Rattle.lay.specs.Lay.{turn_bytes, last_cells}
use Rattle.lay.proofs.copy_row.Goals as goal

pub returns : goal.returns
returns c =
    let n = c.args.n in
    copied c.args.s.now c.args.from c.args.d.now c.args.at ((n - last_cells) * cell_bytes)
    (n * cell_bytes / turn_bytes * turn_bytes) (4 * cell_bytes) (n * cell_bytes)
    (omega (arith, c.requires)) (omega (arith, c.requires)) (omega (arith, c.requires)) c.requires.1 c.requires.2 c.copy_bytes.ensures
    c.copy_four.ensures
