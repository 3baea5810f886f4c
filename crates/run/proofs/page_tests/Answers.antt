-- `run::page_tests` meets its contract: each test that fails has its law, and all that hold.
use Rattle.std.proofs.Common.{arith}
use Rattle.run.specs.Tests.{judged-type, judged-work, judged-rows, judged-zero, judged-past, judged-good}
use Rattle.run.proofs.page_tests.Goals as goal
use Rattle.run.proofs.page_tests.Goals.{After-rank_of, After-struct_known-4-1, Else-res-ne-BOOLEAN, Else-start-eq0, Start}

-- the type is BOOLEAN and the work area has room
module _ (c : After-rank_of) where
  abbrev typed : Else-res-ne-BOOLEAN
  typed = (goal.at.After-rank_of c).Else-res-ne-BOOLEAN

  abbrev start : Start
  start = (goal.at.After-rank_of c).Start

-- the row buffer has room too
module _ (c : After-struct_known-4-1) where
  abbrev from : Else-start-eq0
  from = (goal.at.After-struct_known-4-1 c).Else-start-eq0

  abbrev ranked : After-rank_of
  ranked = (goal.at.After-struct_known-4-1 c).After-rank_of

pub returns-then-res-ne-BOOLEAN : goal.returns-then-res-ne-BOOLEAN
returns-then-res-ne-BOOLEAN c = rw c.refuse.ensures (judged-type c.if-res-ne-BOOLEAN.true)

pub returns-then-work-bytes : goal.returns-then-work-bytes
returns-then-work-bytes c = rw c.refuse-then-work-bytes.ensures (judged-work c.if-res-ne-BOOLEAN.false c.if-work-bytes.true)

pub returns-then-rows-rank_of : goal.returns-then-rows-rank_of
returns-then-rows-rank_of c =
    rw c.refuse-then-rows-rank_of.ensures
    (judged-rows (typed (goal.at.returns-then-rows-rank_of c).After-rank_of).if-res-ne-BOOLEAN.false c.if-work-bytes.false (omega (arith, c.if-rows-rank_of.true, c.rank_of.ensures.number)))

pub returns-then-start-eq0 : goal.returns-then-start-eq0
returns-then-start-eq0 c =
    rw c.refuse-then-start-eq0.ensures
    (judged-zero (typed (goal.at.returns-then-start-eq0 c).After-rank_of).if-res-ne-BOOLEAN.false c.if-work-bytes.false c.if-start-eq0.true)

pub returns-then-res-start : goal.returns-then-res-start
returns-then-res-start c =
    let k = ranked (goal.at.returns-then-res-start c).After-struct_known-4-1 in
    rw c.refuse-then-res-start.ensures
    (judged-past (typed k).if-res-ne-BOOLEAN.false k.if-work-bytes.false (omega (arith, c.if-res-start.true, (start k).requires.cells_le_most_cells)))

pub returns : goal.returns
returns c =
    let s = (goal.at.returns c).After-struct_known-4-1 in
    let k = ranked s in
    judged-good (typed k).if-res-ne-BOOLEAN.false k.if-work-bytes.false
    (omega (arith, (from s).if-rows-rank_of.false, k.rank_of.ensures.number))
    (from s).if-start-eq0.false (omega (arith, c.if-res-start.false, (start k).requires.cells_le_most_cells))
