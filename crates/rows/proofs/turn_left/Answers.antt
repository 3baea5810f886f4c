-- `rows::turn_left` meets its contract: each side of the test is a side of the turn.
use Rattle.std.proofs.Common.{◌+◌, ◌%◌, ◌<◌, mod-lt, arith, lt-ltb, le-ltb}
use Rattle.rows.proofs.turn_left.Goals as goal
use Rattle.rows.proofs.turn_left.Goals.{Start}

-- in its turn
in-turn : (c : Start) → c.args.k % (c.args.m + c.args.n) < c.args.m + c.args.n
in-turn c = mod-lt c.args.k (omega (arith, c.requires.0))

pub returns-then-inner-m : goal.returns-then-inner-m
returns-then-inner-m c = (rw (lt-ltb _ _ c.if-inner-m.true), omega (arith, c.if-inner-m.true))

pub overflow_sub-result-2 : goal.overflow_sub-result-2
overflow_sub-result-2 c = omega (arith, in-turn (goal.at.overflow_sub-result-2 c).Start)

pub returns : goal.returns
returns c = (rw (le-ltb _ _ c.if-inner-m.false), omega (arith, in-turn (goal.at.returns c).Start))
