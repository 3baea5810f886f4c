-- `cell::bytes::put9` meets its contract: a byte is stored, and the number's eight after it. Assumes nothing.
use Rattle.std.proofs.Common.{ℕ, ◌+◌, List, ◌∷◌, length, ap, ◌∙◌, arith}
use Rattle.paper.specs.Limits.{word_bytes, cell_bytes}
use Rattle.paper.specs.Numbers.{le_bytes}
use Rattle.laws.specs.Put.{put}
use Rattle.cell.proofs.Runs.{stored-after, le-bytes}
use Rattle.cell.proofs.bytes.put9.Goals as goal

pub returns : goal.returns
unfolding le_bytes
returns c =
    let a = c.args in
    let e = c.copy_from_slice.ensures.after ∙ c.to_le_bytes.ensures ∙ le-bytes word_bytes 0 a.n a.n (omega arith) in
    stored-after a.d.now _ a.at a.mark (a.at + cell_bytes) (omega (arith, ap length e)) (omega (arith, c.requires))
    ∙ ap (λ (l : List ℕ). put a.d.now a.at (a.mark ∷ l)) e
