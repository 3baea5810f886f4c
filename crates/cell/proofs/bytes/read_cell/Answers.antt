-- `cell::bytes::read_cell` meets its contract: the run of nine bytes is its first byte and the run of eight after it. Assumes nothing.
use Rattle.std.proofs.Common.{get_or, sym, ap, ◌∙◌, rules}
use Rattle.paper.specs.Limits.{word_bytes}
use Rattle.paper.specs.Cells.{cell_from, cell_of}
use Rattle.cell.proofs.Runs.{run-cons}
use Rattle.cell.proofs.bytes.read_cell.Goals as goal

pub returns : goal.returns
returns c =
    let a = c.args in
    c.from_parts.ensures
    ∙ ap (cell_from a.kind (get_or a.s.now a.at 0)) c.word.ensures
    ∙ ap (cell_of a.kind) (sym (run-cons a.s.now a.at word_bytes (search rules)))
