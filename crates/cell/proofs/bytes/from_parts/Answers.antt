-- `cell::bytes::from_parts` meets its contract: each way out is a case of `cell_from`. Assumes nothing.
use Rattle.std.proofs.Common.{sym, ◌∙◌}
use Rattle.cell.proofs.Cases.{from-filled, from_empty, from-empty-bad, from-none}
use Rattle.cell.proofs.bytes.from_parts.Goals as goal

pub returns-then-mark-eq1 : goal.returns-then-mark-eq1
returns-then-mark-eq1 c =
    let a = c.args in
    c.from_word.ensures ∙ sym (from-filled a.kind a.n _ c.if-mark-eq1.true)

pub returns-then-n-eq0 : goal.returns-then-n-eq0
returns-then-n-eq0 c =
    let a = c.args in
    sym (from_empty a.kind a.n _ c.if-mark-eq0.true c.if-n-eq0.true)

pub returns-else-n-eq0 : goal.returns-else-n-eq0
returns-else-n-eq0 c =
    let a = c.args in
    sym (from-empty-bad a.kind a.n _ c.if-mark-eq0.true c.if-n-eq0.false)

pub returns-else-mark-eq0 : goal.returns-else-mark-eq0
returns-else-mark-eq0 c =
    let a = c.args in
    sym (from-none a.kind a.n _ c.if-mark-eq1.false c.if-mark-eq0.false)
