-- `values::move_cells` meets its contract: one band after the other.
use Rattle.std.proofs.Common.{◌≡◌, ℕ, ◌+◌, ◌*◌, ◌≤◌, List, length, sym, refl, ◌∙◌, subst, mul-le-mul_right, le-mul_of_pos_right, arith}
use Rattle.paper.specs.Limits.{cell_bytes}
use Rattle.laws.specs.Numbers.{Bytes, bytes_take}
use Rattle.rows.specs.declared.Band.{Band}
use Rattle.rows.specs.Bands.{line_of, Banded}
use Rattle.values.specs.Done.{CellsDone}
use Rattle.values.specs.Runs.{Asked, Filled, few-cells, keeps, room-all, earlier}
use Rattle.values.specs.Moved.{comes_in, Laying, mover, here}
use Rattle.values.proofs.move_cells.Goals as goal
use Rattle.values.proofs.move_cells.Goals.{After-band_of-band, After-lay_band, In-loop-k, Start}

pub loop-k-init : goal.loop-k-init
loop-k-init c =
    let a = c.requires.asked in
    let y = a.in-turn in
    (omega arith, few-cells y a.none, omega (arith, room-all y a.none, keeps y a.none (omega arith)), refl, λ a. a.none)

-- a turn
module _ (c : In-loop-k) where
  abbrev start : Start
  start = (goal.at.In-loop-k c).Start

  abbrev B : List ℕ
  B = start.args.bundle.now

  abbrev AskedOf : Type 0
  AskedOf = Asked B start.args.recipe.now start.args.work.now start.args.turn

  bytes : Bytes B
  bytes i = omega (arith, c.shared_slice_known-1.given i)

  work-bytes : Bytes start.args.work.now
  work-bytes i = omega (arith, c.slice_known-1.given i)

pub band_of-band-requires : goal.band_of-band-requires
band_of-band-requires c =
    let s = (goal.at.band_of-band-requires c).In-loop-k in
    let y = (start s).requires.asked.in-turn in
    let m = (start s).args.m in
    let e = (start s).requires.moves in
    record { holds = y.ready.detail; moving = mover y m e; k_bound = here y m e _ c.loop-k-test.true }

pub overflow_mul-k : goal.overflow_mul-k
overflow_mul-k c = omega (arith, c.loop-k.invariant.1, c.loop-k-test.true)

pub overflow_add-base : goal.overflow_add-base
overflow_add-base c =
    omega (arith, c.loop-k.invariant.2, c.loop-k.invariant.3, c.loop-k-test.true, (start (goal.at.overflow_add-base c).In-loop-k).well_formed)

-- its band
module _ (c : After-band_of-band) where
  abbrev turn : In-loop-k
  turn = (goal.at.After-band_of-band c).In-loop-k

  abbrev p : Start
  p = start turn

  abbrev w : Band
  w = c.band_of-band.result

  abbrev k : ℕ
  k = turn.loop-k.k

  banded : Banded (comes_in p.args.recipe.now p.args.m p.args.turn) p.args.turn.result.cells k w
  banded =
      subst (λ (n : ℕ). Banded (comes_in p.args.recipe.now p.args.m p.args.turn) n k w)
      (sym p.requires.asked.in-turn.ready.count) c.band_of-band.ensures

  abbrev laying : (a : AskedOf turn) → Laying (B turn) turn.loop-k.work (p.args.turn.result.at + k * cell_bytes)
      turn.cells_of-a.result turn.cells_of-b.result w
  laying a = record {
    recipe = p.args.recipe.now;
    lent = p.args.work.now;
    turn = p.args.turn;
    asked = a;
    move = p.args.m;
    moves_so = p.requires.moves;
    bytes = bytes turn;
    bytes-before = subst Bytes (earlier a.in-turn a.none)
        (bytes_take p.args.turn.result.at p.args.work.now (work-bytes turn));
    first = turn.cells_of-a.ensures;
    second = turn.cells_of-b.ensures;
    k = k;
    sofar = turn.loop-k.invariant.4 a;
    place = refl;
    band = banded;
  }

  next : k + w.lines * line_of w ≤ p.args.turn.result.cells
  next = banded.room

  more : 1 ≤ w.lines * line_of w
  more = omega (arith, banded.some, banded.long, le-mul_of_pos_right {m = line_of w} w.lines (omega (arith, banded.long)))

  line-short : line_of w ≤ w.lines * line_of w
  line-short = omega (arith, mul-le-mul_right (line_of w) banded.some)

pub lay_band-requires : goal.lay_band-requires
lay_band-requires c =
    let s = (goal.at.lay_band-requires c).After-band_of-band in
    laying s (p s).requires.asked

pub overflow_add-line : goal.overflow_add-line
overflow_add-line c =
    let s = (goal.at.overflow_add-line c).After-band_of-band in
    omega (arith, next s, line-short s, (turn s).loop-k.invariant.1)

pub overflow_add-line-in-loop-k : goal.overflow_add-line-in-loop-k
overflow_add-line-in-loop-k c =
    let s = (goal.at.overflow_add-line-in-loop-k c).After-band_of-band in
    omega (arith, next s, line-short s, (turn s).loop-k.invariant.1)

pub overflow_mul-k-in-loop-k : goal.overflow_mul-k-in-loop-k
overflow_mul-k-in-loop-k c =
    let s = (goal.at.overflow_mul-k-in-loop-k c).After-band_of-band in
    omega (arith, next s, (turn s).loop-k.invariant.1)

pub overflow_add-k : goal.overflow_add-k
overflow_add-k c =
    let s = (goal.at.overflow_add-k c).After-band_of-band in
    omega (arith, next s, (turn s).loop-k.invariant.1)

pub loop-k-smaller : goal.loop-k-smaller
loop-k-smaller c =
    let s = (goal.at.loop-k-smaller c).After-band_of-band in
    omega (arith, next s, more s)

-- it is laid down
module _ (c : After-lay_band) where
  abbrev h : After-band_of-band
  h = (goal.at.After-lay_band c).After-band_of-band

  filled : Filled (B (turn h)) (p h).args.recipe.now (p h).args.work.now (p h).args.turn (k h + (w h).lines * line_of (w h))
      c.lay_band.new.work
  filled a = c.lay_band.ensures (laying h a)

  kept : length c.lay_band.new.work ≡ length (p h).args.work.now
  kept = let a = (p h).requires.asked in keeps a.in-turn (filled a) (next h) ∙ sym (keeps a.in-turn a.none (omega arith))

pub loop-k-preserved : goal.loop-k-preserved
loop-k-preserved c =
    let s = (goal.at.loop-k-preserved c).After-lay_band in
    let l = (turn (h s)).loop-k.invariant in
    (next (h s), l.1, omega (arith, l.2, l.3, kept s), kept s, filled s)

pub returns : goal.returns
returns c a =
    let l = c.loop-k in
    let e : l.k ≡ c.args.turn.result.cells =
    omega (arith, l.invariant.0, c.loop-k-test.false) in
    subst (λ (k : ℕ). CellsDone a.done k l.work) e (l.invariant.4 a)
