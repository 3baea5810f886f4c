-- `json_write::put_comma` meets its contract: a comma where more follows, nothing after the last.
use Rattle.std.proofs.Common.{refl, ap, arith, length}
use Rattle.json_write.specs.Texts.{comma, comma-some}
use Rattle.json_write.proofs.put_comma.Goals as goal

pub returns-then-more-eq0 : goal.returns-then-more-eq0
unfolding comma
returns-then-more-eq0 c = rw c.if-more-eq0.true (omega arith, refl)

pub bounds-out-at : goal.bounds-out-at
bounds-out-at c = omega (arith, ap length (comma-some _ c.if-more-eq0.false))

pub returns : goal.returns
returns c = rw (comma-some _ c.if-more-eq0.false) (refl, refl)
