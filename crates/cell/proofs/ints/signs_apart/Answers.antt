-- `cell::ints::signs_apart` meets its contract: the top bit of `^` and `&` (Signs.antt). Assumes nothing.
use Rattle.std.proofs.Common.{rules}
use Rattle.cell.proofs.Signs.{signs-by}
use Rattle.cell.proofs.ints.signs_apart.Goals as goal

pub returns : goal.returns
returns c = signs-by c.args.x c.args.y c.args.z (search rules) (search rules) (search rules)
