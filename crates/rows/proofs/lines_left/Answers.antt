-- `rows::lines_left` meets its contract: each side of the test is a side of the definition.
use Rattle.std.proofs.Common.{lt-ltb, le-ltb}
use Rattle.rows.proofs.lines_left.Goals as goal

pub returns-then-left-line : goal.returns-then-left-line
returns-then-left-line c = rw (lt-ltb _ _ c.if-left-line.true) c.one_line.ensures

pub returns : goal.returns
returns c = rw (le-ltb _ _ c.if-left-line.false)
