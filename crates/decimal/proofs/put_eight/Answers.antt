-- `decimal::put_eight` meets its contract: the four digits before the last four, and the last four.
use Rattle.std.proofs.Common.{◌/◌, ◌%◌, arith}
use Rattle.decimal.specs.Wrote.{wrote-both}
use Rattle.decimal.specs.Pairs.{four, eight-rest}
use Rattle.decimal.proofs.put_eight.Goals as goal

pub returns : goal.returns
returns c =
    let low = c.args.n % 100000000 in
    wrote-both _ _ (four (low / 10000)) (four low) _ (eight-rest c.args.n low (omega arith)) c.requires c.put_four-from.ensures
    c.put_four.ensures
