-- `decimal::put_signed` meets its contract: below 0 a sign and the distance to 0, else the distance from it.
use Rattle.std.proofs.Common.{◌-◌, arith}
use Rattle.paper.specs.Limits.{reach}
use Rattle.paper.specs.Numbers.{text}
use Rattle.paper.specs.Rests.{digits}
use Rattle.decimal.specs.Wrote.{wrote_as, wrote_then}
use Rattle.decimal.specs.Digits.{digits-most, decimal-below, decimal-from}
use Rattle.decimal.proofs.put_signed.Goals as goal

pub put_decimal-requires : goal.put_decimal-requires
put_decimal-requires c =
    omega (arith, digits-most 19 (reach - c.args.d), c.put_byte-from.ensures.0)

pub returns-then-d-lt-REACH : goal.returns-then-d-lt-REACH
returns-then-d-lt-REACH c =
    let s = c.args in
    wrote_as s.out.now s.at (decimal-below s.d c.if-d-lt-REACH.true)
    (wrote_then s.out.now s.at (text "-") _ _ (digits 19 (reach - s.d)) _ _ (omega arith) c.put_byte-from.ensures
    c.put_decimal.ensures)

pub returns : goal.returns
returns c =
    wrote_as _ _ (decimal-from c.args.d c.if-d-lt-REACH.false) c.put_decimal-2.ensures

pub put_decimal-requires-2 : goal.put_decimal-requires-2
put_decimal-requires-2 c = omega (arith, digits-most 19 (c.args.d - reach))
