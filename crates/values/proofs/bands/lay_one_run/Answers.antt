-- `values::bands::lay_one_run` meets its contract: line after line, each by one run.
use Rattle.std.proofs.Common.{refl, ◌≡◌, ℕ, ◌+◌, ◌*◌, ◌≤◌, length, arith}
use Rattle.paper.specs.Limits.{cell_bytes}
use Rattle.rows.specs.declared.Band.{Band}
use Rattle.rows.specs.Bands.{line_of}
use Rattle.values.specs.Moved.{Laying, BandLaid, lines-room, lines-few, run-asks, run-leaves, no_line, line-laid, all_lines, next-line, line-begins}
use Rattle.values.proofs.bands.lay_one_run.Goals as goal
use Rattle.values.proofs.bands.lay_one_run.Goals.{After-lay_cells, In-loop-r, Start}

pub overflow_mul-line : goal.overflow_mul-line
overflow_mul-line c =
    let v = c.requires.laying in
    omega (arith, lines-room v 0 v.band.some, c.well_formed)

-- a turn
module _ (c : In-loop-r) where
  abbrev start : Start
  start = (goal.at.In-loop-r c).Start

  abbrev w : Band
  w = start.args.band

  abbrev Asked : Type 0
  Asked = Laying start.args.bundle.now start.args.work.now start.args.at start.args.a start.args.b w

  asked : Asked
  asked = start.requires.laying

  abbrev r : ℕ
  r = c.loop-r._r

  abbrev place : ℕ
  place = c.loop-r.place

  at_place : place ≡ start.args.at + (r * line_of w + 0) * cell_bytes
  at_place = omega (arith, c.loop-r.invariant.2)

  room : place + line_of w * cell_bytes ≤ length start.args.work.now
  room = omega (arith, lines-room asked r c.loop-r-test.true, c.loop-r.invariant.2)

pub lay_cells-requires : goal.lay_cells-requires
lay_cells-requires c =
    let s = (goal.at.lay_cells-requires c).In-loop-r in
    let v = asked s in
    let l = c.loop-r.invariant in
    let h = c.loop-r-test.true in
    record { lays = run-asks (next-line l v h) 0 (w s).first v.band.one (omega arith) (line-begins l v h) (at_place s); le_length = v.band.long }

-- the run is laid down, and with it the line
module _ (c : After-lay_cells) where
  abbrev i1 : In-loop-r
  i1 = (goal.at.After-lay_cells c).In-loop-r

  line-done : BandLaid (start i1).args.bundle.now (start i1).args.work.now (start i1).args.at (start i1).args.a (start i1).args.b
      (w i1) (r i1 + 1) c.lay_cells.new.work
  line-done v =
      let l = i1.loop-r.invariant in
      let h = i1.loop-r-test.true in
      run-leaves (next-line l v h) 0 (w i1).first v.band.one (omega arith) (line-begins l v h) (at_place i1) c.lay_cells.ensures
      (omega (arith, (start i1).requires.length_value))

pub overflow_add-place : goal.overflow_add-place
overflow_add-place c = let i = i1 (goal.at.overflow_add-place c).After-lay_cells in omega (arith, room i, (start i).well_formed)

pub loop-r-preserved : goal.loop-r-preserved
loop-r-preserved c =
    let s = (goal.at.loop-r-preserved c).After-lay_cells in
    let i = i1 s in
    line-laid i.loop-r.invariant (asked i) i.loop-r-test.true (omega (arith, (start i).requires.length_value))
    refl refl (line-done s)

pub loop-r-init : goal.loop-r-init
loop-r-init c = no_line

pub returns : goal.returns
returns c = all_lines c.loop-r.invariant (omega (arith, c.loop-r-test.false))
