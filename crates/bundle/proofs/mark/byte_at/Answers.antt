-- `bundle::mark::byte_at` meets its contract.
use Rattle.std.proofs.Common.{sym}
use lib.ListN.{get_or-eq_default}
use Rattle.bundle.proofs.mark.byte_at.Goals as goal

pub returns : goal.returns
returns c = sym (get_or-eq_default c.args.s.now 0 {n = c.args.i} c.if-i-s.false)
