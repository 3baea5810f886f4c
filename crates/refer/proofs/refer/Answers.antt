-- `refer::refer` meets its contract: each way out by the law of its test.
use Rattle.std.proofs.Common.{sym, ◌∙◌, arith}
use Rattle.std.proofs.lemmas.Result.{err_from_is_err_and}
use Rattle.paper.specs.Axes.{good_extent}
use Rattle.laws.specs.Tests.{and_left}
use Rattle.extent.specs.Judged.{good-small}
use Rattle.refer.specs.Places.{refer-refused, refer-count, its-cell, refer-inside, refer-maximum, refer-beyond}
use Rattle.refer.proofs.refer.Goals as goal

pub returns-in_err-head : goal.returns-in_err-head
returns-in_err-head c =
    let p = err_from_is_err_and c.from_residual.result c.from_residual.ensures.1 in
    rw (p.1, p.2) (refer-refused _ _ c.args.coordinates.now c.in_err-head.ensures.0)

pub returns-then-coordinates-rank_of : goal.returns-then-coordinates-rank_of
returns-then-coordinates-rank_of c =
    rw c.refuse.ensures
    (refer-count _ _ _ c.in_ok-head.ensures (λ e. c.if-coordinates-rank_of.true (e ∙ sym c.rank_of.ensures.number)))

pub coordinate_at-p-requires : goal.coordinate_at-p-requires
coordinate_at-p-requires c = omega (arith, c.rank_of.ensures.few)

pub found-requires : goal.found-requires
found-requires c = good-small _ _ (and_left (good_extent _ _) _ c.in_ok-head.ensures.fit.good)

pub overflow_sub-o : goal.overflow_sub-o
overflow_sub-o c =
    let e = c.if-coordinates-rank_of.false ∙ c.rank_of.ensures.number in
    (its-cell _ _ _ c.in_ok-head.ensures e c.coordinate_at-p.result.at c.coordinate_at-p.ensures c.found.ensures c.in-At.is).0

pub held_cell-requires : goal.held_cell-requires
held_cell-requires c =
    let e = c.if-coordinates-rank_of.false ∙ c.rank_of.ensures.number in
    (its-cell _ _ _ c.in_ok-head.ensures e c.coordinate_at-p.result.at c.coordinate_at-p.ensures c.found.ensures c.in-At.is).1

pub returns-in-At : goal.returns-in-At
returns-in-At c =
    let e = c.if-coordinates-rank_of.false ∙ c.rank_of.ensures.number in
    rw c.held_cell.ensures
    (refer-inside _ _ _ c.in_ok-head.ensures e c.coordinate_at-p.result.at c.coordinate_at-p.ensures c.found.ensures c.in-At.is)

pub returns-in-InMaximum : goal.returns-in-InMaximum
returns-in-InMaximum c =
    let e = c.if-coordinates-rank_of.false ∙ c.rank_of.ensures.number in
    refer-maximum _ _ _ c.in_ok-head.ensures e c.coordinate_at-p.result.at c.coordinate_at-p.ensures c.found.ensures c.in-InMaximum.is

pub returns-in-Beyond : goal.returns-in-Beyond
returns-in-Beyond c =
    let e = c.if-coordinates-rank_of.false ∙ c.rank_of.ensures.number in
    rw c.refuse-in-Beyond.ensures
    (refer-beyond _ _ _ c.in_ok-head.ensures e c.coordinate_at-p.result.at c.coordinate_at-p.ensures c.found.ensures c.in-Beyond.is)
