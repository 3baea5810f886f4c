-- `pack::put::put_both` meets its contract: the first half, then the last.
use Rattle.pack.specs.Put.{long-put}
use Rattle.pack.proofs.put.put_both.Goals as goal

pub returns : goal.returns
returns c =
    long-put c.args.d.now c.put_half.new.d c.put_half-2.new.d c.args.at c.args.n c.requires c.put_half.ensures
    c.put_half-2.ensures
