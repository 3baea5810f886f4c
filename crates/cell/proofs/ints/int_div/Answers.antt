-- `cell::ints::int_div` meets its contract. Assumes nothing.
use Rattle.std.proofs.Common.{arith, pos, int_div, ap, ◌∙◌, to_z-of_z, w64, of_z}
use mir.Facts.{sfits_lit}
use Rattle.laws.specs.Parts.{bits-eq}
use Rattle.cell.proofs.Fit.{by_zero, by-other, divided}
use Rattle.cell.proofs.ints.int_div.Goals as goal

pub returns-then-b-eq0 : goal.returns-then-b-eq0
returns-then-b-eq0 c =
    let o = c in
    by_zero int_div o.args.a o.args.b (bits-eq {w = w64} o.args.b (pos 0) o.ranges.b (sfits_lit tt) c.if-b-eq0.true)

pub returns-else-b-eq0 : goal.returns-else-b-eq0
returns-else-b-eq0 c =
    let a = c.args.a in
    let b = c.args.b in
    c.fitting.ensures (int_div a b) (divided a b _ (omega (arith, c.if-b-eq0.false)) (simp (to_z-of_z c.ranges.a, to_z-of_z c.ranges.b) at c.checked_div.ensures))
    ∙ by-other int_div a b (λ e. c.if-b-eq0.false (ap (of_z w64) e))
