-- `origin::in_turns` meets its contract: each side of the test is a side of the turn.
use Rattle.std.proofs.Common.{lt-ltb, le-ltb}
use Rattle.origin.specs.Counts.{first-countable, second-countable}
use Rattle.origin.proofs.in_turns.Goals as goal

pub counted-requires : goal.counted-requires
counted-requires c = first-countable c.requires c.if-inner-m.true

pub returns-then-inner-m : goal.returns-then-inner-m
returns-then-inner-m c = rw (lt-ltb _ _ c.if-inner-m.true, c.counted.ensures)

pub counted-requires-2 : goal.counted-requires-2
counted-requires-2 c = second-countable c.requires c.if-inner-m.false

pub returns : goal.returns
returns c = rw (le-ltb _ _ c.if-inner-m.false, c.counted-2.ensures)
