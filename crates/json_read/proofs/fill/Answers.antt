-- `json_read::fill` meets its contract: there is room, or not.
use Rattle.std.proofs.Common.{refl}
use Rattle.json_read.specs.Read.{filled-so}
use Rattle.json_read.proofs.fill.Goals as goal

pub returns-then-cells-bytes : goal.returns-then-cells-bytes
returns-then-cells-bytes c = (c.if-cells-bytes.true, c.refuse.ensures, refl)

pub returns : goal.returns
returns c = filled-so c.args.found.now c.args.n c.args.cells.now _ c.if-cells-bytes.false c.requires.enough c.copy_bytes.ensures
