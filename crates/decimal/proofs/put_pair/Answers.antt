-- `decimal::put_pair` meets its contract: two bytes are stored.
use Rattle.std.proofs.Common.{refl, arith, length-set}
use Rattle.decimal.specs.Pairs.{pair-stored}
use Rattle.decimal.proofs.put_pair.Goals as goal

pub returns : goal.returns
returns c = (refl, pair-stored c.args.out.now c.args.at c.args.n c.requires)

pub bounds-out-at-2 : goal.bounds-out-at-2
bounds-out-at-2 c = simp length-set (omega arith)
