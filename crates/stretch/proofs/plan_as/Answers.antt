-- `stretch::plan_as` meets its contract: each way out by the paper's tests up to it.
use Rattle.std.proofs.Common.{◌+◌, ◌/◌, ◌≤◌, arith, ◌≡◌, sym, ◌∙◌, true}
use Rattle.std.proofs.lemmas.Result.{err_from_is_err_and}
use borrow.Author.Tests.{not-true, not-false}
use Rattle.paper.specs.Limits.{most_cells, cell_bytes, sizes_of}
use Rattle.paper.specs.Refusals.{between}
use Rattle.stretch.specs.Sides.{side-clean}
use Rattle.stretch.specs.Plans.{left-refused, right-refused, glue-refused, SidesPassed, axials, few_bytes, outside, in-few, part-found}
use Rattle.stretch.proofs.plan_as.Goals as goal
use Rattle.stretch.proofs.plan_as.Goals.{Else-not-in_range, In_ok-glue_judged, In_ok-side_judged, In_ok-side_judged-2, Start}

pub returns-in_err-side_judged : goal.returns-in_err-side_judged
returns-in_err-side_judged c =
    let p = err_from_is_err_and c.from_residual.result c.from_residual.ensures.1 in
    rw (p.1, p.2) (left-refused c.in_err-side_judged.ensures)

pub returns-in_err-side_judged-2 : goal.returns-in_err-side_judged-2
returns-in_err-side_judged-2 c =
    let p = err_from_is_err_and c.from_residual-in_err-side_judged-2.result c.from_residual-in_err-side_judged-2.ensures.1 in
    rw (p.1, p.2) (right-refused c.in_ok-side_judged.ensures c.in_err-side_judged-2.ensures)

pub glue_judged-requires-clause-small : goal.glue_judged-requires-clause-small
glue_judged-requires-clause-small c = (side-clean c.in_ok-side_judged.ensures).0

pub glue_judged-requires-clause-small_2 : goal.glue_judged-requires-clause-small_2
glue_judged-requires-clause-small_2 c = (side-clean c.in_ok-side_judged-2.ensures).0

pub returns-in_err-glue_judged : goal.returns-in_err-glue_judged
returns-in_err-glue_judged c =
    let p = err_from_is_err_and c.from_residual-in_err-glue_judged.result c.from_residual-in_err-glue_judged.ensures.1 in
    rw (p.1, p.2) (glue-refused c.in_ok-side_judged.ensures c.in_ok-side_judged-2.ensures c.in_err-glue_judged.ensures)

-- no test has failed but the last
all : (c : In_ok-glue_judged) → let a = c.args in SidesPassed (sizes_of a.v) a.left_kind a.left_names a.left a.left_bytes a.right_kind
    a.right_names a.right a.right_bytes a.axis.0
all c = record { left = c.in_ok-side_judged.ensures; right = c.in_ok-side_judged-2.ensures; glue = c.in_ok-glue_judged.ensures }

pub returns-then-not-in_range : goal.returns-then-not-in_range
returns-then-not-in_range c =
    rw c.refuse.ensures (outside (all (goal.at.returns-then-not-in_range c).In_ok-glue_judged) _ (sym c.in_range.ensures ∙ not-true _ c.if-not-in_range.true-raw))

-- and neither has that
module _ (c : Else-not-in_range) where
  abbrev here : In_ok-glue_judged
  here = (goal.at.Else-not-in_range c).In_ok-glue_judged

  counted : between 1 ((c.args.left_bytes + c.args.right_bytes) / cell_bytes) c.args.o.0 ≡ true
  counted = sym c.in_range.ensures ∙ not-false _ c.if-not-in_range.false-raw

  few : (1 ≤ c.args.o.0) × (c.args.o.0 ≤ most_cells)
  few = in-few (all here) c.args.o.0 counted

pub block_of-m-requires : goal.block_of-m-requires
block_of-m-requires c = (axials (all (here c))).0

pub block_of-n-requires : goal.block_of-n-requires
block_of-n-requires c = (axials (all (here (goal.at.block_of-n-requires c).Else-not-in_range))).1

pub overflow_sub-o : goal.overflow_sub-o
overflow_sub-o c = (few (goal.at.overflow_sub-o c).Else-not-in_range).0

pub in_turn-requires : goal.in_turn-requires
in_turn-requires c =
    let m = c.block_of-m.ensures in
    let n = c.block_of-n.ensures in
    record { in_turns = record { some = m.1; first = m.2; second = n.2; few = omega (arith, few (goal.at.in_turn-requires c).Else-not-in_range) }; le_n = n.1 }

pub returns : goal.returns
returns c =
    let s = (goal.at.returns c).Else-not-in_range in
    part-found (all (here s)) _ (counted s) c.block_of-m.ensures.0 c.block_of-n.ensures.0 c.in_turn.ensures

pub overflow_add-left_bytes : goal.overflow_add-left_bytes
overflow_add-left_bytes c = omega (arith, few_bytes (all (goal.at.overflow_add-left_bytes c).In_ok-glue_judged))
