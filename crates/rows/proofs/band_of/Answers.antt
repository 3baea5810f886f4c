-- `rows::band_of` meets its contract: one, two or three runs, and the pattern of lines, make the band.
use Rattle.std.proofs.Common.{◌+◌, ◌-◌, ◌≤◌, arith}
use Rattle.paper.specs.Limits.{most_cells}
use Rattle.paper.specs.Answers.{axes_of}
use Rattle.paper.specs.Axes.{cells}
use Rattle.rows.specs.Bands.{line-room, banded, banded-one, banded-two}
use Rattle.rows.proofs.band_of.Goals as goal
use Rattle.rows.proofs.band_of.Goals.{After-pattern_of-p, After-run_at-first, After-run_at-second, Start}

-- the pattern's first line has room
module _ (c : After-pattern_of-p) where
  abbrev start : Start
  start = (goal.at.After-pattern_of-p c).Start

  room : start.args.k + c.pattern_of-p.result.line ≤ cells (axes_of start.args.w.now.t)
  room = line-room c.pattern_of-p.ensures

  few : cells (axes_of start.args.w.now.t) ≤ most_cells
  few = start.requires.moving.result.few

-- one run of it, and two
module _ (c : After-run_at-first) where
  abbrev told : After-pattern_of-p
  told = (goal.at.After-run_at-first c).After-pattern_of-p

  fits : c.run_at-first.result.length ≤ told.pattern_of-p.result.line
  fits = c.run_at-first.ensures.fits

module _ (c : After-run_at-second) where
  abbrev first : After-run_at-first
  first = (goal.at.After-run_at-second c).After-run_at-first

  second_fits : c.run_at-second.result.length ≤ (told first).pattern_of-p.result.line - first.run_at-first.result.length
  second_fits = c.run_at-second.ensures.fits

pub run_at-first-requires : goal.run_at-first-requires
run_at-first-requires c = let s = start c in record { holds = s.requires.holds; moving = s.requires.moving; le_most = (c.pattern_of-p.ensures.long, room c) }

pub returns-then-left-eq0 : goal.returns-then-left-eq0
returns-then-left-eq0 c =
    rw (c.band_with.ensures, c.none.ensures, c.none-then-left-eq0.ensures)
    (banded-one (told (goal.at.returns-then-left-eq0 c).After-run_at-first).pattern_of-p.ensures c.run_at-first.ensures c.if-left-eq0.true)

pub overflow_add-k : goal.overflow_add-k
overflow_add-k c =
    let s = (goal.at.overflow_add-k c).After-run_at-first in
    omega (arith, fits s, room (told s), few (told s))

pub run_at-second-requires : goal.run_at-second-requires
run_at-second-requires c =
    let p = (goal.at.run_at-second-requires c).After-run_at-first in
    let s = start (told p) in
    record { holds = s.requires.holds; moving = s.requires.moving; le_most = (omega (arith, c.if-left-eq0.false), omega (arith, fits p, room (told p))) }

pub returns-then-rest-eq0 : goal.returns-then-rest-eq0
returns-then-rest-eq0 c =
    let d = first (goal.at.returns-then-rest-eq0 c).After-run_at-second in
    rw (c.band_with-then-rest-eq0.ensures, c.none-then-rest-eq0.ensures)
    (banded-two (told d).pattern_of-p.ensures d.run_at-first.ensures c.run_at-second.ensures c.if-rest-eq0.true)

pub overflow_add-k-2 : goal.overflow_add-k-2
overflow_add-k-2 c = let d = first (goal.at.overflow_add-k-2 c).After-run_at-second in omega (arith, fits d, room (told d), few (told d))

pub overflow_add-k-3 : goal.overflow_add-k-3
overflow_add-k-3 c =
    let s = (goal.at.overflow_add-k-3 c).After-run_at-second in
    let d = first s in
    omega (arith, second_fits s, fits d, room (told d), few (told d))

pub run_at-third-requires : goal.run_at-third-requires
run_at-third-requires c =
    let p = (goal.at.run_at-third-requires c).After-run_at-second in
    let d = first p in
    let s = start (told d) in
    record { holds = s.requires.holds; moving = s.requires.moving; le_most = (omega (arith, c.if-rest-eq0.false), omega (arith, second_fits p, fits d, room (told d))) }

pub returns : goal.returns
returns c =
    let d = first (goal.at.returns c).After-run_at-second in
    let l = c.lines_filled-lines.ensures in
    rw c.band_with-2.ensures
    (banded (told d).pattern_of-p.ensures (record { whole = l.0; part = l.1 })
    d.run_at-first.ensures c.run_at-second.ensures c.run_at-third.ensures)
