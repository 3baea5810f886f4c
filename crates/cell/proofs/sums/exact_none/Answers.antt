-- `cell::sums::exact_none` meets its contract. Assumes nothing.
use Rattle.cell.proofs.Exactly.{sums_none}
use Rattle.cell.proofs.sums.exact_none.Goals as goal

pub returns : goal.returns
returns c = sums_none
