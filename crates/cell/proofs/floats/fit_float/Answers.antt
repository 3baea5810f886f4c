-- `cell::floats::fit_float` meets its contract. Assumes nothing.
use Rattle.std.proofs.Common.{sym, ◌∙◌}
use Rattle.cell.proofs.Number.{fit-yes, fit-no}
use Rattle.cell.proofs.floats.fit_float.Goals as goal

pub returns-then-is_finite : goal.returns-then-is_finite
returns-then-is_finite c =
    let o = c.args in
    fit-yes o.x (sym c.is_finite.ensures ∙ c.if-is_finite.true)

pub returns-else-is_finite : goal.returns-else-is_finite
returns-else-is_finite c =
    let o = c.args in
    fit-no o.x (sym c.is_finite.ensures ∙ c.if-is_finite.false)
