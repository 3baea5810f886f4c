-- `judged::is_filled` meets its contract.
use Rattle.std.specs.Prelude.{is_some}
use Rattle.std.proofs.Common.{sym, ap}
use Rattle.cell.proofs.Cases.{filled-int}
use Rattle.judged.specs.Looks.{float_fits, truth-fits}
use Rattle.judged.proofs.is_filled.Goals as goal

pub returns-in-1 : goal.returns-in-1
returns-in-1 c = sym (ap is_some (filled-int _ c.args.n c.in-1.is))

pub returns-in-2 : goal.returns-in-2
returns-in-2 c = float_fits _ c.args.n c.in-2.is

pub returns-in_default : goal.returns-in_default
returns-in_default c = let r = c.in_default.in_default-own.rest in truth-fits _ c.args.n r.0.1 r.1
