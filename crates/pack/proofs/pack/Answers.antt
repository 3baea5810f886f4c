-- `pack::pack` meets its promise: a version that is none is refused.
use Rattle.std.proofs.lemmas.Result.{err_from_is_err_and}
use Rattle.pack.specs.Laid.{shapes_of}
use Rattle.pack.specs.Laying.{told_none}
use Rattle.pack.proofs.pack.Goals as goal

pub returns-in_err-v : goal.returns-in_err-v
returns-in_err-v c =
    let a = c.args in
    let p = err_from_is_err_and c.from_residual.result c.from_residual.ensures.1 in
    rw (p.1, p.2) (told_none a.version (shapes_of a.count a.forms) a.cells.now a.out.now c.in_err-v.ensures)
