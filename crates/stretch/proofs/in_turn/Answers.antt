-- `stretch::in_turn` meets its contract: a side's cell is no further on than the cell of both, so the numbers fit.
use Rattle.std.proofs.Common.{◌≤◌, ◌≡◌, sym, ap, ◌∙◌, arith}
use native.Mathlib.Nat.{mod-le}
use Rattle.paper.specs.Limits.{most_cells}
use Rattle.origin.specs.declared.Origin.{Origin}
use Rattle.stretch.specs.Turns.{part_from, turn_part, own_cell, turn-few}
use Rattle.stretch.proofs.in_turn.Goals as goal
use Rattle.stretch.proofs.in_turn.Goals.{After-in_turns-cell}

module _ (c : After-in_turns-cell) {x : Origin} (e : c.in_turns-cell.result ≡ x) where
  few : own_cell x ≤ most_cells
  few = turn-few c.requires.in_turns (sym e ∙ c.in_turns-cell.ensures)

  part : part_from c.args.m c.args.n x ≡ turn_part c.args.m c.args.n c.args.j
  unfolding turn_part
  part = ap (part_from _ _) (sym e ∙ c.in_turns-cell.ensures)

pub byte_of-requires : goal.byte_of-requires
byte_of-requires c = omega (arith, few (goal.at.byte_of-requires c).After-in_turns-cell c.in-FromA.is)

pub byte_of-requires-in-FromA : goal.byte_of-requires-in-FromA
byte_of-requires-in-FromA c = omega (arith, few (goal.at.byte_of-requires-in-FromA c).After-in_turns-cell c.in-FromA.is)

pub returns-in-FromA : goal.returns-in-FromA
returns-in-FromA c =
    rw (c.byte_of.ensures, c.byte_of-in-FromA.ensures) (part (goal.at.returns-in-FromA c).After-in_turns-cell c.in-FromA.is)

pub byte_of-requires-in-FromB : goal.byte_of-requires-in-FromB
byte_of-requires-in-FromB c = omega (arith, few (goal.at.byte_of-requires-in-FromB c).After-in_turns-cell c.in-FromB.is)

pub byte_of-requires-in-FromB-2 : goal.byte_of-requires-in-FromB-2
byte_of-requires-in-FromB-2 c = omega (arith, few (goal.at.byte_of-requires-in-FromB-2 c).After-in_turns-cell c.in-FromB.is)

pub returns-in-FromB : goal.returns-in-FromB
returns-in-FromB c =
    rw (c.byte_of-in-FromB.ensures, c.byte_of-in-FromB-2.ensures) (part (goal.at.returns-in-FromB c).After-in_turns-cell c.in-FromB.is)

pub returns-in-Nowhere : goal.returns-in-Nowhere
returns-in-Nowhere c = part (goal.at.returns-in-Nowhere c).After-in_turns-cell c.in-Nowhere.is

pub overflow_sub-i : goal.overflow_sub-i
overflow_sub-i c = mod-le _ _

pub overflow_sub-i-in-FromB : goal.overflow_sub-i-in-FromB
overflow_sub-i-in-FromB c = mod-le _ _
