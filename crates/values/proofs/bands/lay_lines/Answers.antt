-- `values::bands::lay_lines` meets its contract: line after line, each by three runs.
use Rattle.std.proofs.Common.{refl, ℕ, ◌+◌, ◌*◌, ◌≤◌, List, length, arith}
use Rattle.paper.specs.Limits.{cell_bytes}
use Rattle.rows.specs.declared.Band.{Band}
use Rattle.rows.specs.Bands.{line_of}
use Rattle.values.specs.Done.{CellsDone}
use Rattle.values.specs.Moved.{Laying, LineAt, lines-room, lines-few, run-asks, run-leaves, no_line, line-laid, all_lines, next-line, line-begins}
use Rattle.values.proofs.bands.lay_lines.Goals as goal
use Rattle.values.proofs.bands.lay_lines.Goals.{After-lay_cells, After-lay_run, After-lay_run-in-loop-r, In-loop-r, Start}

-- a line is no longer than the work area
line-fits : (c : Start) → c.args.at + line_of c.args.band * cell_bytes ≤ length c.args.work.now
line-fits c = omega (arith, lines-room c.requires 0 c.requires.band.some)

pub overflow_mul-one : goal.overflow_mul-one
overflow_mul-one c = omega (arith, line-fits (goal.at.overflow_mul-one c).Start, c.well_formed)

pub overflow_mul-two : goal.overflow_mul-two
overflow_mul-two c = omega (arith, line-fits (goal.at.overflow_mul-two c).Start, c.well_formed)

pub overflow_add-two : goal.overflow_add-two
overflow_add-two c = omega (arith, line-fits (goal.at.overflow_add-two c).Start, c.well_formed)

pub overflow_mul-line : goal.overflow_mul-line
overflow_mul-line c = omega (arith, line-fits (goal.at.overflow_mul-line c).Start, c.well_formed)

pub overflow_add-line : goal.overflow_add-line
overflow_add-line c = omega (arith, line-fits (goal.at.overflow_add-line c).Start, c.well_formed)

-- a turn
module _ (c : In-loop-r) where
  abbrev start : Start
  start = (goal.at.In-loop-r c).Start

  abbrev w : Band
  w = start.args.band

  abbrev Asked : Type 0
  Asked = Laying start.args.bundle.now start.args.work.now start.args.at start.args.a start.args.b w

  abbrev r : ℕ
  r = c.loop-r._r

  -- so many cells into the line
  abbrev Upto : ℕ → List ℕ → Type 0
  Upto before work = (v : Asked) → CellsDone v.asked.done (v.k + (r * line_of w + before)) work

  -- the line, for each run of it
  line_at : (v : Asked) → LineAt v r c.loop-r.x c.loop-r.y
  line_at v = next-line c.loop-r.invariant v c.loop-r-test.true

  room : start.args.at + (r * line_of w + line_of w) * cell_bytes ≤ length start.args.work.now
  room = lines-room start.requires r c.loop-r-test.true

  first-begins : Upto 0 c.loop-r.work
  first-begins v = line-begins c.loop-r.invariant v c.loop-r-test.true

pub lay_cells-requires : goal.lay_cells-requires
lay_cells-requires c =
    let s = (goal.at.lay_cells-requires c).In-loop-r in
    let v = (start s).requires in record { lays = run-asks (line_at s v) 0 (w s).first v.band.one (omega arith) (first-begins s v) (omega (arith, c.loop-r.invariant.2)); le_length = v.band.long }

pub overflow_add-place : goal.overflow_add-place
overflow_add-place c =
    let s = (goal.at.overflow_add-place c).In-loop-r in
    omega (arith, room s, c.loop-r.invariant.2, (start s).well_formed)

-- the first run is laid down
module _ (c : After-lay_cells) where
  abbrev i1 : In-loop-r
  i1 = (goal.at.After-lay_cells c).In-loop-r

  second-begins : Upto i1 (w i1).first.length c.lay_cells.new.work
  second-begins v =
      run-leaves (line_at i1 v) 0 (w i1).first v.band.one (omega arith) (first-begins i1 v) (omega (arith, i1.loop-r.invariant.2))
      c.lay_cells.ensures (omega arith)

pub lay_run-requires : goal.lay_run-requires
lay_run-requires c =
    let s = (goal.at.lay_run-requires c).After-lay_cells in
    let i = i1 s in
    let v = (start i).requires in
    run-asks (line_at i v) (w i).first.length (w i).second v.band.two (omega arith) (second-begins s v)
    (omega (arith, i.loop-r.invariant.2))

pub overflow_add-place-in-loop-r : goal.overflow_add-place-in-loop-r
overflow_add-place-in-loop-r c =
    let i = i1 (goal.at.overflow_add-place-in-loop-r c).After-lay_cells in
    omega (arith, room i, i.loop-r.invariant.2, (start i).well_formed)

-- the second
module _ (c : After-lay_run) where
  abbrev h2 : After-lay_cells
  h2 = (goal.at.After-lay_run c).After-lay_cells

  abbrev i2 : In-loop-r
  i2 = i1 h2

  third-begins : Upto i2 ((w i2).first.length + (w i2).second.length) c.lay_run.new.work
  third-begins v =
      run-leaves (line_at i2 v) (w i2).first.length (w i2).second v.band.two (omega arith) (second-begins h2 v)
      (omega (arith, i2.loop-r.invariant.2)) c.lay_run.ensures (omega arith)

pub lay_run-requires-in-loop-r : goal.lay_run-requires-in-loop-r
lay_run-requires-in-loop-r c =
    let s = (goal.at.lay_run-requires-in-loop-r c).After-lay_run in
    let i = i2 s in
    let v = (start i).requires in
    run-asks (line_at i v) ((w i).first.length + (w i).second.length) (w i).third v.band.three (omega arith) (third-begins s v)
    (omega (arith, i.loop-r.invariant.2))

-- the third, and with it the line
module _ (c : After-lay_run-in-loop-r) where
  abbrev h3 : After-lay_run
  h3 = (goal.at.After-lay_run-in-loop-r c).After-lay_run

  abbrev i3 : In-loop-r
  i3 = i2 h3

  line-done : (v : Asked i3) → CellsDone v.asked.done (v.k + (r i3 + 1) * line_of (w i3)) c.lay_run-in-loop-r.new.work
  line-done v =
      run-leaves (line_at i3 v) ((w i3).first.length + (w i3).second.length) (w i3).third v.band.three (omega arith)
      (third-begins h3 v)
      (omega (arith, i3.loop-r.invariant.2)) c.lay_run-in-loop-r.ensures (omega arith)

pub overflow_add-place-in-loop-r-2 : goal.overflow_add-place-in-loop-r-2
overflow_add-place-in-loop-r-2 c =
    let i = i3 (goal.at.overflow_add-place-in-loop-r-2 c).After-lay_run-in-loop-r in
    omega (arith, room i, i.loop-r.invariant.2, (start i).well_formed)

pub loop-r-preserved : goal.loop-r-preserved
loop-r-preserved c =
    let s = (goal.at.loop-r-preserved c).After-lay_run-in-loop-r in
    let i = i3 s in
    line-laid i.loop-r.invariant (start i).requires i.loop-r-test.true (omega arith) refl
    refl (line-done s)

pub loop-r-init : goal.loop-r-init
loop-r-init c = no_line

pub returns : goal.returns
returns c = all_lines c.loop-r.invariant (omega (arith, c.loop-r-test.false))
