-- `listing::is_true` meets its contract: a mark that is not 1 is no truth value, and with the mark 1 the number tells.
use Rattle.std.proofs.Common.{ne_eqb}
use Rattle.listing.specs.Rows.{unmarked, marked}
use Rattle.listing.proofs.is_true.Goals as goal

pub returns-else-s-at-eq1 : goal.returns-else-s-at-eq1
returns-else-s-at-eq1 c = let a = c.args in rw (ne_eqb _ _ c.if-s-at-eq1.false) (unmarked a.s.now a.at c.requires c.if-s-at-eq1.false)

pub returns-then-s-at-eq1 : goal.returns-then-s-at-eq1
returns-then-s-at-eq1 c =
    let a = c.args in
    marked a.s.now a.at c.requires c.word.result c.if-s-at-eq1.true c.word.ensures
