-- `coded::truth_cell` meets its contract. Assumes nothing.
use Rattle.std.proofs.Common.{sym}
use Rattle.coded.proofs.Standing.{standing-empty, standing-truth}
use Rattle.paper.specs.Limits.{BOOLEAN}
use Rattle.coded.proofs.truth_cell.Goals as goal

pub returns-then-mark-eq0 : goal.returns-then-mark-eq0
returns-then-mark-eq0 c = sym (standing-empty BOOLEAN _ c.args.n c.if-mark-eq0.true)

pub returns-else-mark-eq0 : goal.returns-else-mark-eq0
returns-else-mark-eq0 c = sym (standing-truth _ c.args.n c.if-mark-eq0.false)
