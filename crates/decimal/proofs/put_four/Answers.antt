-- `decimal::put_four` meets its contract: the two digits before the last two, and the last two.
use Rattle.std.proofs.Common.{◌/◌, ◌%◌, arith}
use Rattle.decimal.specs.Wrote.{wrote-both}
use Rattle.decimal.specs.Pairs.{pair, four-rest}
use Rattle.decimal.proofs.put_four.Goals as goal

pub returns : goal.returns
returns c =
    let low = c.args.n % 10000 in
    wrote-both _ _ (pair (low / 100)) (pair low) _ (four-rest c.args.n low (omega arith)) c.requires c.put_pair-from.ensures
    c.put_pair.ensures
