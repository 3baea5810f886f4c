-- `cell::means::mean_with` meets its contract: each way out is one of Onward.antt. Assumes nothing.
use Rattle.std.proofs.Common.{refl, sym, ◌∙◌, arith}
use Rattle.cell.proofs.Onward.{first, later, fails}
use Rattle.cell.proofs.means.mean_with.Goals as goal

pub returns-then-m-eq0 : goal.returns-then-m-eq0
returns-then-m-eq0 c = (λ made k n cs is few. first c.args.m c.args.x made k n cs is c.if-m-eq0.true, omega arith)

pub returns-then-is_finite : goal.returns-then-is_finite
returns-then-is_finite c =
    let o = c.args in (
      λ made k n cs is few. later o.m o.x made k n cs is _ c.if-m-eq0.false
          (sym c.is_finite.ensures ∙ c.if-is_finite.true) refl few,
      omega arith,
    )

pub returns-else-is_finite : goal.returns-else-is_finite
returns-else-is_finite c =
    let o = c.args in
    (λ made k n cs is few. fails o.m o.x made k n cs is c.if-m-eq0.false (sym c.is_finite.ensures ∙ c.if-is_finite.false), omega arith)
