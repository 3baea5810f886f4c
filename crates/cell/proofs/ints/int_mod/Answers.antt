-- `cell::ints::int_mod` meets its contract. Assumes nothing.
use Rattle.std.specs.Prelude.{Ok}
use Rattle.std.proofs.Common.{ℤ, pos, int_rem, ap, ◌∙◌, to_z-of_z, w64, to_z, of_z}
use mir.Facts.{sfits_lit}
use Rattle.laws.specs.Parts.{bits-eq, rem-fits}
use Rattle.paper.specs.declared.Cell.TheVariants.{Int}
use Rattle.cell.proofs.Fit.{fit-back, by_zero, by-other}
use Rattle.cell.proofs.ints.int_mod.Goals as goal

pub returns-then-b-eq0 : goal.returns-then-b-eq0
returns-then-b-eq0 c =
    let o = c in
    by_zero int_rem o.args.a o.args.b (bits-eq {w = w64} o.args.b (pos 0) o.ranges.b (sfits_lit tt) c.if-b-eq0.true)

pub returns-else-b-eq0 : goal.returns-else-b-eq0
returns-else-b-eq0 c =
    let a = c.args.a in
    let b = c.args.b in
    let e = simp (to_z-of_z c.ranges.a, to_z-of_z c.ranges.b) at c.wrapping_rem.ensures in
    ap (λ (z : ℤ). Ok (Int (to_z w64 (of_z w64 z)))) e
    ∙ fit-back (int_rem a b) (rem-fits a b c.ranges.a) ∙ by-other int_rem a b (λ e. c.if-b-eq0.false (ap (of_z w64) e))
