-- Cells moved: a run of them laid down is so many more of the step's cells, by one cell after the other over imagined work areas; and so
-- is a line of a band, run after run.
use Rattle.std.specs.Prelude.{◌≡◌, ℕ, zero, suc, ◌+◌, ◌-◌, ◌*◌, ◌%◌, ◌^◌, ◌<◌, ◌≤◌, List, length, refl}
use Rattle.std.proofs.Common.{sym, subst, ◌∙◌, mul-le-mul_right, le-mul_of_pos_right, arith}
use Rattle.std.proofs.Math.Path.{ap}
use Rattle.paper.specs.declared.Axis.{Axis}
use Rattle.paper.specs.declared.Move.{Move}
use Rattle.paper.specs.declared.Operation.TheVariants.{Moves}
use Rattle.paper.specs.Limits.{cell_bytes}
use Rattle.paper.specs.Numbers.{le_bytes}
use Rattle.paper.specs.Axes.{cells, Array}
use Rattle.paper.specs.Cells.{encode}
use Rattle.paper.specs.Recipe.{Step, Planned}
use Rattle.paper.specs.Answers.{axes_of}
use Rattle.paper.specs.Listing.{result_bytes}
use Rattle.laws.specs.Numbers.{Bytes}
use Rattle.laws.specs.Put.{put, put-none, put-put}
use Rattle.step.specs.Steps.{step_in}
use Rattle.quick.specs.declared.operands.Source.{Source}
use Rattle.origin.specs.declared.Origin.{Origin}
use Rattle.origin.specs.declared.Origin.TheVariants.{Nowhere, FromA, FromB}
use Rattle.origin.specs.Origins.{Moving, in_array}
use Rattle.origin.specs.Comes.{comes}
use Rattle.rows.specs.declared.Run.{Run}
use Rattle.rows.specs.declared.Band.{Band}
use Rattle.rows.specs.Bands.{onward, line_of, Runs, Banded}
use Rattle.values.specs.declared.Turn.{Turn}
use Rattle.values.specs.Done.{step_at, cell_over, Done, CellsDone}
use Rattle.lay.specs.Lay.{run_bytes, run_more, run_none, spans-end, Lays, RunLaid}
use Rattle.values.specs.Turns.{cells_at, moving, moved-is, inside, reach-first, reach-second, as-they-lie}
use Rattle.values.specs.Runs.{InTurn, Asked, keeps, room-all, earlier, room, stored}

-- where a step's cells come from
abbrev pub comes_in : List ℕ → Move → Turn → ℕ → Origin
comes_in bs m t =
    comes m (step_in bs t.step) (axes_of t.a.head.form.extent) (axes_of t.b.head.form.extent) (axes_of t.result.form.extent)

-- ---- origins later on

onward-none : (o : Origin) → onward 0 0 o ≡ o
onward-none Nowhere = refl
onward-none (FromA j) = let e : j + 0 ≡ j = omega arith in ap FromA e
onward-none (FromB j) = let e : j + 0 ≡ j = omega arith in ap FromB e

onward-more : (i : ℕ) (o : Origin) → onward (i + 1) (i + 1) o ≡ onward i i (onward 1 1 o)
onward-more i Nowhere = refl
onward-more i (FromA j) = let e : j + (i + 1) ≡ j + 1 + i = omega arith in ap FromA e
onward-more i (FromB j) = let e : j + (i + 1) ≡ j + 1 + i = omega arith in ap FromB e

-- sums that wrap: in an array that gives a cell they did not
onward-wrapped : (o : Origin) (p q i m n : ℕ) → m ≤ 2 ^ 64 → n ≤ 2 ^ 64 → in_array (onward (p + i) (q + i) o) m n
    → onward (p + i) (q + i) o ≡ onward i i (onward (p % 2 ^ 64) (q % 2 ^ 64) o)
onward-wrapped Nowhere p q i m n a b h = refl
onward-wrapped (FromA j) p q i m n a b h = let e : j + (p + i) ≡ j + p % 2 ^ 64 + i = omega (arith, h) in ap FromA e
onward-wrapped (FromB j) p q i m n a b h = let e : j + (q + i) ≡ j + q % 2 ^ 64 + i = omega (arith, h) in ap FromB e

-- ---- a run

module _ {B bs : List ℕ} {t : Turn} {As : List Array} {ps : List Planned} {W : List ℕ} {s : ℕ} {d : Done As ps W s} (y : InTurn B bs t d)
    (m : Move) (e : t.step.operation ≡ Moves m) where
  abbrev E : List Axis
  E = axes_of t.a.head.form.extent

  abbrev F : List Axis
  F = axes_of t.b.head.form.extent

  abbrev D : List ℕ
  D = result_bytes d.results

  abbrev O : ℕ → Origin
  O = comes_in bs m t

  pub moves : (step_at ps s).step.operation ≡ Moves m
  moves = ap (λ (x : Step). x.operation) y.ready.step ∙ e

  pub mover : Moving m (step_in bs t.step) E F (axes_of t.result.form.extent)
  mover = moving y.ready m moves

  pub here : (k : ℕ) → k < t.result.cells → k < cells (axes_of t.result.form.extent)
  here k h = omega (arith, y.ready.count)

  module _ (x : Bytes B) (z : Bytes D) where
    abbrev bytes_at : Origin → ℕ → List ℕ
    bytes_at o n = run_bytes B D (cells_at t.a) (cells_at t.b) o n

    nine : (k : ℕ) → k < t.result.cells → length (bytes_at (O k) 1) ≡ cell_bytes
    unfolding encode le_bytes
    nine k h = ap length (as-they-lie y.ready m moves k (here k h) x z)

    -- one cell
    one-moved : {k : ℕ} {work : List ℕ} → CellsDone d k work → k < t.result.cells
        → CellsDone d (k + 1) (put work (t.result.at + k * cell_bytes) (bytes_at (O k) 1))
    unfolding cell_over encode le_bytes
    one-moved {k} {work} f h =
        let c = moved-is y.ready m moves k (here k h) in
        stored y f h _ c _ (ap (put work (t.result.at + k * cell_bytes)) (as-they-lie y.ready m moves k (here k h) x z))

    -- n cells
    pub run_moved : (n : ℕ) {k : ℕ} {work : List ℕ} → CellsDone d k work → (o : Origin) → k + n ≤ t.result.cells
        → ((i : ℕ) → i < n → O (k + i) ≡ onward i i o) → (after : List ℕ) → after ≡ put work (t.result.at + k * cell_bytes) (bytes_at o n)
        → CellsDone d (k + n) after
    run_moved zero {k} {work} f o h each after q =
        let u : k + 0 ≡ k = omega arith in
        rw (u, q, run_none B D (cells_at t.a) (cells_at t.b) o, put-none work (t.result.at + k * cell_bytes)) f
    run_moved (suc n) {k} {work} f o h each after q =
        let at = t.result.at + k * cell_bytes in
        let u : k + 0 ≡ k = omega arith in
        let v : k + suc n ≡ k + 1 + n = omega arith in
        let l : k < t.result.cells = omega arith in
        let g : O k ≡ o = ap O (sym u) ∙ each 0 (omega arith) ∙ onward-none o in
        let w = put work at (bytes_at o 1) in
        let c : length (bytes_at o 1) ≡ cell_bytes = rw g at (nine k l) in
        let i = t.result.at + (k + 1) * cell_bytes in
        let p = put-put work at (bytes_at o 1) (omega (arith, c, room y f l)) i (bytes_at (onward 1 1 o) n) (omega (arith, c)) in
        rw v (run_moved n {k = k + 1} {work = w} (rw g at (one-moved f l)) (onward 1 1 o) (omega arith)
        (λ i b. let j : k + 1 + i ≡ k + (i + 1) = omega arith in ap O j ∙ each (i + 1) (omega arith) ∙ onward-more i o) after
        (q ∙ ap (put work at) (run_more B D (cells_at t.a) (cells_at t.b) o n) ∙ sym p))

-- ---- a band

-- what lies in the work area where a band begins
pub record Laying (B work : List ℕ) (at : ℕ) (a b : Source) (w : Band) : Type 0 where
  pub recipe : List ℕ
  pub lent : List ℕ
  pub turn : Turn
  pub asked : Asked B recipe lent turn
  pub move : Move
  pub moves_so : turn.step.operation ≡ Moves move
  pub bytes : Bytes B
  pub bytes-before : Bytes (result_bytes asked.done.results)
  pub first : a ≡ cells_at turn.a
  pub second : b ≡ cells_at turn.b
  pub k : ℕ
  pub sofar : CellsDone asked.done k work
  pub place : at ≡ turn.result.at + k * cell_bytes
  pub band : Banded (comes_in recipe move turn) turn.result.cells k w

-- r of its lines are there
abbrev pub BandLaid : List ℕ → List ℕ → ℕ → Source → Source → Band → ℕ → List ℕ → Type 0
BandLaid B work at a b w r after = (v : Laying B work at a b w) → CellsDone v.asked.done (v.k + r * line_of w) after

-- line r of it, whose cells come from x cells later in A and y in B, added up
pub record LineAt {B work : List ℕ} {at : ℕ} {a b : Source} {w : Band} (v : Laying B work at a b w) (r x y : ℕ) : Type 0 where
  pub less : r < w.lines
  pub first : x ≡ (r * w.a) % 2 ^ 64
  pub second : y ≡ (r * w.b) % 2 ^ 64

-- the first r + 1 of n lines
lines-upto : (r n line : ℕ) → r < n → r * line + line ≤ n * line
lines-upto r n line h = omega (arith, mul-le-mul_right line h)

module _ {B work₀ : List ℕ} {at : ℕ} {a b : Source} {w : Band} (v : Laying B work₀ at a b w) where
  abbrev line : ℕ
  line = line_of w

  fits : v.k ≤ v.turn.result.cells
  fits = omega (arith, v.band.room)

  -- the work area has room for them
  pub lines-room : (r : ℕ) → r < w.lines → at + (r * line + line) * cell_bytes ≤ length work₀
  lines-room r h =
      let y = v.asked.in-turn in
      omega (arith, lines-upto r w.lines line h, v.band.room, v.place, room-all y v.sofar, keeps y v.sofar fits)

  pub lines-few : (r : ℕ) → r < w.lines → r + 1 ≤ length work₀
  lines-few r h = omega (arith, lines-room r h, le-mul_of_pos_right {m = line} (r + 1) (omega (arith, v.band.long)))

  -- none is there
  pub lines-begin : CellsDone v.asked.done (v.k + 0 * line) work₀
  lines-begin = let e : v.k ≡ v.k + 0 * line = omega arith in rw e at v.sofar

  -- the work area keeps its length
  pub lines-kept : (r : ℕ) {after : List ℕ} → r ≤ w.lines → CellsDone v.asked.done (v.k + r * line) after
      → length after ≡ length work₀
  lines-kept r h f =
      let y = v.asked.in-turn in
      keeps y f (omega (arith, mul-le-mul_right line h, v.band.room)) ∙ sym (keeps y v.sofar fits)

-- a run in a line, so many cells after the line's first
module _ {B work₀ : List ℕ} {at : ℕ} {a b : Source} {w : Band} {v : Laying B work₀ at a b w} {r x y : ℕ} (g : LineAt v r x y)
    (before : ℕ) (run : Run) (runs : Runs (comes_in v.recipe v.move v.turn) v.k w before run)
    (l : before + run.length ≤ line_of w) where
  abbrev t : Turn
  t = v.turn

  abbrev it : InTurn B v.recipe t v.asked.done
  it = v.asked.in-turn

  abbrev comes_at : ℕ → Origin
  comes_at = comes_in v.recipe v.move t

  abbrev c : ℕ
  c = v.k + (r * line_of w + before)

  abbrev from : Origin
  from = onward x y run.from

  so : (step_at v.asked.steps v.asked.number).step.operation ≡ Moves v.move
  so = moves it v.move v.moves_so

  all_in : c + run.length ≤ t.result.cells
  all_in = omega (arith, lines-upto r w.lines (line_of w) g.less, v.band.room)

  each : (i : ℕ) → i < run.length → comes_at (c + i) ≡ onward i i from
  each i b =
      let z : c + i ≡ v.k + (r * line_of w + (before + i)) = omega arith in
      let q = ap comes_at z ∙ runs r i g.less b in
      let n = inside it.ready v.move so (c + i) (here it v.move v.moves_so (c + i) (omega (arith, all_in))) in
      let f = it.ready.small-first.few in
      let s = it.ready.small-second.few in
      q ∙ rw (g.first, g.second) (onward-wrapped run.from (r * w.a) (r * w.b) i _ _ (omega (arith, f))
      (omega (arith, s)) (rw q at n))

  module _ {work : List ℕ} (f : CellsDone v.asked.done c work) {place : ℕ} (p : place ≡ at + (r * line_of w + before) * cell_bytes) where
    its-place : place ≡ t.result.at + c * cell_bytes
    its-place = omega (arith, v.place)

    -- its last cell is there, so all are
    abbrev last : ℕ
    last = run.length - 1

    last-cell : {o : Origin} → 1 ≤ run.length → run.from ≡ o → comes_at (c + last) ≡ onward last last (onward x y o)
    last-cell m q = each last (omega arith) ∙ ap (λ (o : Origin). onward last last (onward x y o)) q

    last-here : 1 ≤ run.length → c + last < cells (axes_of t.result.form.extent)
    last-here m = here it v.move v.moves_so _ (omega (arith, all_in))

    abbrev asks : Lays B work place a b run x y
    asks = record {
      base = t.result.at;
      low = omega (arith, its-place);
      room = omega (arith, its-place, all_in, room-all it f, keeps it f (omega (arith, all_in)));
      first = λ i q m.
          spans-end B v.first (earlier it f) (i + x) run.length m
          (reach-first it.ready v.move so _ (last-here m) _ (last-cell m q));
      second = λ i q m.
          spans-end B v.second (earlier it f) (i + y) run.length m
          (reach-second it.ready v.move so _ (last-here m) _ (last-cell m q));
    }

    pub run-asks : Lays B work place a b run x y
    run-asks = asks

    pub run-leaves : {after : List ℕ} → RunLaid B work place a b run x y after → {m : ℕ}
        → v.k + (r * line_of w + (before + run.length)) ≡ m
        → CellsDone v.asked.done m after
    run-leaves {after} q {m} e =
        let z : c + run.length ≡ m = omega arith in
        rw z at (run_moved it v.move v.moves_so v.bytes v.bytes-before run.length f from all_in each after
        (q asks ∙ (λ i. put work (its-place i) (run_bytes B (earlier it f i) (v.first i) (v.second i) from run.length))))

-- sums that wrap
added-up : (r a x z : ℕ) → x ≡ (r * a) % 2 ^ 64 → z ≡ (x + a) % 2 ^ 64 → z ≡ ((r + 1) * a) % 2 ^ 64
added-up r a x z e h = omega arith

-- ---- line after line

-- r lines are there; the next begins at byte `place`, and comes from x cells later in A, y in B
abbrev pub LinesLaid : List ℕ → List ℕ → ℕ → Source → Source → Band → ℕ → ℕ → ℕ → ℕ → List ℕ → Type 0
LinesLaid B work₀ at a b w r place x y work =
    (r ≤ w.lines) × (length work ≡ length work₀) × (place ≡ at + r * line_of w * cell_bytes) × (x ≡ (r * w.a) % 2 ^ 64)
    × (y ≡ (r * w.b) % 2 ^ 64)
    × BandLaid B work₀ at a b w r work

module _ {B work₀ : List ℕ} {at : ℕ} {a b : Source} {w : Band} where
  pub no_line : LinesLaid B work₀ at a b w 0 at 0 0 work₀
  no_line = (omega arith, refl, omega arith, omega arith, omega arith, λ v. lines-begin v)

  module _ {r place x y : ℕ} {work : List ℕ} (l : LinesLaid B work₀ at a b w r place x y work) where
    pub line-laid : Laying B work₀ at a b w → r < w.lines → {p u z : ℕ} {after : List ℕ}
        → p ≡ place + line_of w * cell_bytes → u ≡ (x + w.a) % 2 ^ 64 → z ≡ (y + w.b) % 2 ^ 64 → BandLaid B work₀ at a b w (r + 1) after
        → LinesLaid B work₀ at a b w (r + 1) p u z after
    line-laid v less p u z done = (
      omega arith,
      lines-kept v (r + 1) (omega arith) (done v),
      omega (arith, l.2),
      added-up r w.a _ _ l.3 u,
      added-up r w.b _ _ l.4 z,
      done,
    )

    pub all_lines : w.lines ≤ r → BandLaid B work₀ at a b w w.lines work
    all_lines h v =
        let e : r ≡ w.lines = omega (arith, l.0) in
        subst (λ (r : ℕ). CellsDone v.asked.done (v.k + r * line_of w) work) e (l.5 v)

    -- the next line
    module _ (v : Laying B work₀ at a b w) (less : r < w.lines) where
      pub next-line : LineAt v r x y
      next-line = record { less = less; first = l.3; second = l.4 }

      pub line-begins : CellsDone v.asked.done (v.k + (r * line_of w + 0)) work
      line-begins = let e : v.k + r * line_of w ≡ v.k + (r * line_of w + 0) = omega arith in rw e at (l.5 v)
