-- `cell::bytes::word_of` meets its contract: a NaN is written in one way. Assumes nothing.
use Rattle.std.proofs.Common.{sym, ap, ◌∙◌}
use Rattle.paper.specs.Cells.{word_of}
use Rattle.cell.proofs.Number.{nan-word}
use Rattle.cell.proofs.bytes.word_of.Goals as goal

pub returns-then-is_nan : goal.returns-then-is_nan
returns-then-is_nan c = nan-word c.in-Float.x (sym c.is_nan.ensures.value ∙ c.if-is_nan.true) ∙ ap word_of (sym c.in-Float.is)
