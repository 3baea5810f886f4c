-- `decimal::put_position` meets its contract: a space, then the position.
use Rattle.std.proofs.Common.{arith}
use Rattle.paper.specs.Numbers.{text, position}
use Rattle.paper.specs.Rests.{decimal}
use Rattle.decimal.specs.Wrote.{wrote_then}
use Rattle.decimal.proofs.put_position.Goals as goal

pub returns : goal.returns
returns c =
    let s = c.args in
    wrote_then s.out.now s.at (text " ") _ _ (decimal (position s.d)) _ _ (omega arith) c.put_byte-from.ensures
    c.put_signed.ensures
