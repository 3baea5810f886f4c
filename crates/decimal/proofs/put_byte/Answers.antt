-- `decimal::put_byte` meets its contract: one byte is stored.
use Rattle.std.proofs.Common.{refl}
use Rattle.laws.specs.Put.{put_byte}
use Rattle.decimal.proofs.put_byte.Goals as goal

pub returns : goal.returns
returns c = (refl, put_byte c.args.out.now c.args.at c.args.b c.requires)
