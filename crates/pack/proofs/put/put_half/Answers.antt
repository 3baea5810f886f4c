-- `pack::put::put_half` meets its contract: the lower four bytes, then the upper four.
use Rattle.pack.specs.Put.{half-put}
use Rattle.pack.proofs.put.put_half.Goals as goal

pub returns : goal.returns
returns c =
    half-put c.args.d.now c.put4.new.d c.put4-2.new.d c.args.at c.args.n c.requires c.put4.ensures
    c.put4-2.ensures
