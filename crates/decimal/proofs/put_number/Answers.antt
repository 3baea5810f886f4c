-- `decimal::put_number` meets its contract: a space, then the number.
use Rattle.std.proofs.Common.{arith}
use lib.IntN.{pos}
use Rattle.paper.specs.Numbers.{text}
use Rattle.paper.specs.Rests.{decimal}
use Rattle.decimal.specs.Wrote.{wrote_then}
use Rattle.decimal.specs.Digits.{digits-most}
use Rattle.decimal.proofs.put_number.Goals as goal

pub put_decimal-requires : goal.put_decimal-requires
put_decimal-requires c =
    omega (arith, digits-most 19 c.args.n, c.put_byte-from.ensures.0)

pub returns : goal.returns
unfolding decimal
returns c =
    let s = c.args in
    wrote_then s.out.now s.at (text " ") _ _ (decimal (pos s.n)) _ _ (omega arith) c.put_byte-from.ensures
    c.put_decimal.ensures
