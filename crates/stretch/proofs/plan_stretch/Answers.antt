-- `stretch::plan_stretch` meets its contract: what is found in the version told, or a version that is none is refused.
use Rattle.std.proofs.Common.{sym}
use Rattle.std.proofs.lemmas.Result.{err_from_is_err_and}
use Rattle.stretch.specs.Plans.{in-version, no-version}
use Rattle.stretch.proofs.plan_stretch.Goals as goal

pub returns : goal.returns
returns c = in-version _ (sym c.in_ok-v.ensures) c.plan_as.ensures

pub returns-in_err-v : goal.returns-in_err-v
returns-in_err-v c =
    let p = err_from_is_err_and c.from_residual.result c.from_residual.ensures.1 in
    rw (p.1, p.2) (no-version _ (sym c.in_err-v.ensures))
