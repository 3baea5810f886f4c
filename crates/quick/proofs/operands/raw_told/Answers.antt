-- `quick::operands::raw_told` meets its contract: the scalar, or the bytes where the cell lies. Assumes nothing.
use Rattle.std.proofs.Common.{ℕ, ◌+◌, ◌≤◌, ◌≡◌, ap, ◌∙◌, false, List, arith, eqb, length}
use Rattle.paper.specs.Limits.{cell_bytes}
use Rattle.quick.specs.Operands.{scalar_side, raw-there, bytes_in}
use Rattle.quick.proofs.operands.raw_told.Goals as goal
use Rattle.quick.proofs.operands.raw_told.Goals.{After-side_of-side, Start}

module _ (c : After-side_of-side) where
  abbrev a : Start
  a = c.before.before.before.before.before

  array : eqb a.args.from.which scalar_side ≡ false
  array = a.requires.scalar_side_value ∙ c.if-all.false

  abbrev bytes : List ℕ
  bytes = bytes_in a.args.from.which a.args.bundle.now a.args.done.now

  long : length c.side_of-side.result.now ≡ length bytes
  long = ap length c.side_of-side.ensures

  room : a.args.from.at + a.args.off + cell_bytes ≤ length c.side_of-side.result.now
  room = omega (arith, a.requires.lies array, long)

pub overflow_add-at : goal.overflow_add-at
overflow_add-at c = omega (arith, room (goal.at.overflow_add-at c).After-side_of-side)

pub bounds-side-at : goal.bounds-side-at
bounds-side-at c = omega (arith, room (goal.at.bounds-side-at c).After-side_of-side)

pub overflow_add-at-2 : goal.overflow_add-at-2
overflow_add-at-2 c = omega (arith, room (goal.at.overflow_add-at-2 c).After-side_of-side)

pub word-requires : goal.word-requires
word-requires c = omega (arith, room (goal.at.word-requires c).After-side_of-side)

pub returns : goal.returns
returns c =
    let s = (goal.at.returns c).After-side_of-side in
    raw-there (a s).args.bundle.now (a s).args.done.now c.side_of-side.result.now (a s).args.from (a s).args.scalar _ (a s).args.off (array s) c.side_of-side.ensures c.word.ensures
