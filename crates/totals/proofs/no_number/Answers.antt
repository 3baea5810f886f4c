-- `totals::no_number` meets its contract.
use Rattle.std.proofs.Common.{refl}
use lib.Ieee.{div, of_bits}
use Rattle.totals.proofs.no_number.Goals as goal

pub returns : goal.returns
unfolding div of_bits
returns c = refl
