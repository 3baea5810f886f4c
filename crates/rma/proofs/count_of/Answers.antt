-- `rma::count_of` meets its contract: the number of arrays, or the bundle's refusal.
use Rattle.std.proofs.lemmas.Result.{err_from_is_err_and}
use Rattle.rma.specs.Arrays.{count-refused, count-got}
use Rattle.rma.proofs.count_of.Goals as goal

pub returns-in_err-reading : goal.returns-in_err-reading
returns-in_err-reading c =
    let p = err_from_is_err_and c.from_residual.result c.from_residual.ensures.1 in
    rw (p.1, p.2) (count-refused c.in_err-reading.ensures)

pub returns : goal.returns
returns c = count-got c.in_ok-reading.ensures
