-- `refer::choose` meets its contract: each way out by the law of its test.
use Rattle.std.proofs.Common.{arith}
use Rattle.std.proofs.lemmas.Result.{err_from_is_err_and}
use Rattle.refer.specs.Chosen.{bundle-refuses, unknown-none, unknown-past, known}
use Rattle.refer.proofs.choose.Goals as goal

pub returns-in_err-reading : goal.returns-in_err-reading
returns-in_err-reading c =
    let p = err_from_is_err_and c.from_residual.result c.from_residual.ensures.1 in
    rw (p.1, p.2) (bundle-refuses _ c.in_err-reading.ensures)

pub returns-then-k-eq0 : goal.returns-then-k-eq0
returns-then-k-eq0 c = rw c.refuse.ensures (unknown-none _ c.in_ok-reading.ensures c.if-k-eq0.true)

pub returns-then-reading-i : goal.returns-then-reading-i
returns-then-reading-i c = rw c.refuse-then-reading-i.ensures (unknown-past _ c.in_ok-reading.ensures c.if-reading-i.true)

pub returns : goal.returns
returns c = known _ c.in_ok-reading.ensures (omega arith) (omega arith)
