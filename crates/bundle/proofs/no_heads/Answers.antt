-- `bundle::no_heads` meets its contract.
use Rattle.bundle.proofs.no_heads.Goals as goal

pub returns : goal.returns
returns c = rw c.no_head-head.ensures
