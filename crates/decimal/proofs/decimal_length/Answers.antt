-- `decimal::decimal_length` meets its contract: the number of bits gives the digits but for one, and the smallest number that has it tells.
use Rattle.std.proofs.Common.{sym, arith}
use lib.Count.{leading_le}
use Rattle.decimal.specs.Bits.{odd, long-least, long-more}
use Rattle.decimal.proofs.decimal_length.Goals as goal

pub returns-then-n-smallest : goal.returns-then-n-smallest
returns-then-n-smallest c = sym (long-least c.args.n (omega arith) (rw c.smallest.ensures at c.if-n-smallest.true))

pub returns : goal.returns
returns c = sym (long-more c.args.n (omega arith) (rw c.smallest.ensures at c.if-n-smallest.false))

pub overflow_sub-bits : goal.overflow_sub-bits
overflow_sub-bits c = leading_le 64 (odd c.args.n)
