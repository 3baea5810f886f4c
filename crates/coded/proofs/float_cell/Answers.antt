-- `coded::float_cell` meets its contract. Assumes nothing.
use Rattle.std.proofs.Common.{sym}
use Rattle.coded.proofs.Standing.{standing-empty, standing-float}
use Rattle.paper.specs.Limits.{FLOAT}
use Rattle.coded.proofs.float_cell.Goals as goal

pub returns-then-mark-eq0 : goal.returns-then-mark-eq0
returns-then-mark-eq0 c = sym (standing-empty FLOAT _ c.args.n c.if-mark-eq0.true)

pub returns-else-mark-eq0 : goal.returns-else-mark-eq0
returns-else-mark-eq0 c = sym (standing-float _ c.args.n c.if-mark-eq0.false)
