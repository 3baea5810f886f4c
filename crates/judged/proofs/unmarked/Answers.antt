-- `judged::unmarked` meets its contract.
use Rattle.std.proofs.Common.{arith}
use Rattle.judged.specs.Looks.{all_ones}
use Rattle.judged.proofs.unmarked.Goals as goal

pub returns : goal.returns
returns c e = all_ones _ c.args.n (omega arith) (omega arith)
