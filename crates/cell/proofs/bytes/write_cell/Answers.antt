-- `cell::bytes::write_cell` meets its contract: the nine bytes that `put9` wrote are those of the cell, by what `mark_of` and `word_of` ensure. Assumes nothing.
use Rattle.std.proofs.Common.{ℕ, ◌+◌, ◌∷◌, ◌++◌, take, drop, ◌∙◌, ap₂}
use Rattle.paper.specs.Limits.{word_bytes, cell_bytes}
use Rattle.paper.specs.Numbers.{le_bytes}
use Rattle.paper.specs.Cells.{encode}
use Rattle.cell.proofs.bytes.write_cell.Goals as goal

pub returns : goal.returns
unfolding encode
returns c =
    let a = c.args in
    c.put9.ensures
    ∙ ap₂ (λ (m n : ℕ). take a.at a.d.now ++ (m ∷ le_bytes word_bytes n) ++ drop (a.at + cell_bytes) a.d.now)
    c.mark_of.ensures
    c.word_of.ensures
