-- `lay::lay_cells` meets its contract: zeros, A's cells or B's.
use Rattle.std.proofs.Common.{ℕ, ◌+◌, ◌^◌, ◌<◌, List, arith, take, length-take}
use Rattle.quick.specs.declared.operands.Source.{Source}
use Rattle.quick.specs.Operands.{bytes_most}
use Rattle.lay.specs.Lay.{Spans, blank-run, first_run, second_run}
use Rattle.lay.proofs.lay_cells.Goals as goal
use Rattle.lay.proofs.lay_cells.Goals.{After-bring-arg-1, After-bring-arg-in-FromB-1, Start}

module _ (c : Start) where
  abbrev D : List ℕ
  D = take c.requires.lays.base c.args.work.now

  -- cells that are there have small numbers
  fits : (f : Source) (i n : ℕ) → Spans c.args.bundle.now D f i n → i < 2 ^ 64
  fits f i n h =
      let l = length-take c.requires.lays.base c.args.work.now in
      let m = bytes_most f.which c.args.bundle.now D (2 ^ 63) (omega (arith, c.well_formed)) (omega (arith, c.well_formed, l)) in
      omega (arith, h, m)

pub returns-in-Nowhere : goal.returns-in-Nowhere
returns-in-Nowhere c v = blank-run v c.in-Nowhere.is c.clear_bytes.ensures

-- A's cells
module _ (c : After-bring-arg-1) where
  abbrev start : Start
  start = (goal.at.After-bring-arg-1 c).Start

  abbrev cell : ℕ
  cell = c.in-FromA.i + start.args.x

  spans : Spans start.args.bundle.now (D start) start.args.a cell start.args.run.length
  spans = start.requires.lays.first _ c.in-FromA.is start.requires.le_length

pub overflow_add-i : goal.overflow_add-i
overflow_add-i c = omega (arith, fits (start c) (start c).args.a (cell c) _ (spans c))

pub bring-requires : goal.bring-requires
bring-requires c = let p = (start c).requires.lays in record { base = p.base; low = p.low; room = p.room; there = spans c }

pub returns-in-FromA : goal.returns-in-FromA
returns-in-FromA c v =
    first_run v (start (goal.at.returns-in-FromA c).After-bring-arg-1).requires.le_length _ c.in-FromA.is c.bring.ensures

-- B's
module _ (c : After-bring-arg-in-FromB-1) where
  abbrev start2 : Start
  start2 = (goal.at.After-bring-arg-in-FromB-1 c).Start

  abbrev cell2 : ℕ
  cell2 = c.in-FromB.i + start2.args.y

  spans2 : Spans start2.args.bundle.now (D start2) start2.args.b cell2 start2.args.run.length
  spans2 = start2.requires.lays.second _ c.in-FromB.is start2.requires.le_length

pub overflow_add-i-in-FromB : goal.overflow_add-i-in-FromB
overflow_add-i-in-FromB c = omega (arith, fits (start2 c) (start2 c).args.b (cell2 c) _ (spans2 c))

pub bring-requires-in-FromB : goal.bring-requires-in-FromB
bring-requires-in-FromB c = let p = (start2 c).requires.lays in record { base = p.base; low = p.low; room = p.room; there = spans2 c }

pub returns-in-FromB : goal.returns-in-FromB
returns-in-FromB c v =
    second_run v (start2 (goal.at.returns-in-FromB c).After-bring-arg-in-FromB-1).requires.le_length _ c.in-FromB.is c.bring-in-FromB.ensures
