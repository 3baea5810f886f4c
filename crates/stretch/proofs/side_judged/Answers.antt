-- `stretch::side_judged` meets its contract: its form's refusal, or its buffer's, or none.
use Rattle.std.proofs.Common.{arith}
use Rattle.std.proofs.lemmas.Result.{err_from_is_err_and}
use Rattle.paper.specs.Limits.{sizes_of}
use Rattle.stretch.specs.Sides.{side-formless, side-formed, side-short, side-good}
use Rattle.stretch.proofs.side_judged.Goals as goal

pub returns-in_err-n : goal.returns-in_err-n
returns-in_err-n c =
    let a = c.args in
    let p = err_from_is_err_and c.from_residual.result c.from_residual.ensures.1 in
    rw (p.1, p.2) (side-formless (sizes_of a.v) a.kind a.names a.e a.place c.in_err-n.ensures)

pub returns-then-bytes-n : goal.returns-then-bytes-n
returns-then-bytes-n c =
    let a = c.args in
    rw c.refuse.ensures (side-short (sizes_of a.v) a.kind a.names a.e a.place c.in_ok-n.ensures c.if-bytes-n.true)

pub returns : goal.returns
returns c =
    let a = c.args in
    side-good (sizes_of a.v) a.kind a.names a.e a.place c.in_ok-n.ensures c.if-bytes-n.false

pub overflow_mul-n : goal.overflow_mul-n
overflow_mul-n c =
    let a = c.args in
    let f = side-formed (sizes_of a.v) a.kind a.names a.e a.place c.in_ok-n.ensures in
    omega (arith, f.number, f.small.few)
