-- `cell::means::mean_none` meets its contract. Assumes nothing.
use Rattle.std.proofs.Common.{refl}
use Rattle.cell.proofs.Onward.{onward-none}
use Rattle.cell.proofs.means.mean_none.Goals as goal

pub returns : goal.returns
returns c = (λ made k cs. onward-none made k _ cs refl, refl)
