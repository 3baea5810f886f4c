-- `coded::int_cell` meets its contract. Assumes nothing.
use Rattle.std.proofs.Common.{sym, ap, ◌∙◌, to_z-of_z, w64}
use borrow.Author.Rules.{sfits_of}
use Rattle.coded.proofs.Standing.{standing-empty, standing-int}
use Rattle.paper.specs.Limits.{INT}
use Rattle.paper.specs.declared.Cell.TheVariants.{Int}
use Rattle.coded.proofs.int_cell.Goals as goal

pub returns-then-mark-eq0 : goal.returns-then-mark-eq0
returns-then-mark-eq0 c = sym (standing-empty INT _ c.args.n c.if-mark-eq0.true)

pub returns-else-mark-eq0 : goal.returns-else-mark-eq0
returns-else-mark-eq0 c = ap Int (to_z-of_z {w = w64} (sfits_of c.signed.type_inv) ∙ c.signed.ensures) ∙ sym (standing-int _ c.args.n c.if-mark-eq0.false)
