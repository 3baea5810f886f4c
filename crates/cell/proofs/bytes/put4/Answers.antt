-- `cell::bytes::put4` meets its contract: four bytes are stored, the number's. Assumes nothing.
use Rattle.std.proofs.Common.{◌+◌, length, ap, ◌∙◌, arith}
use Rattle.paper.specs.Limits.{limit_bytes}
use Rattle.paper.specs.Numbers.{le_bytes}
use Rattle.laws.specs.Put.{put}
use Rattle.cell.proofs.Runs.{stored, le-bytes}
use Rattle.cell.proofs.bytes.put4.Goals as goal

pub returns : goal.returns
unfolding le_bytes
returns c =
    let a = c.args in
    let e = c.copy_from_slice.ensures.after ∙ c.to_le_bytes.ensures ∙ le-bytes limit_bytes 0 a.n a.n (omega arith) in
    stored a.d.now _ a.at (a.at + limit_bytes) (omega (arith, ap length e)) ∙ ap (put a.d.now a.at) e
