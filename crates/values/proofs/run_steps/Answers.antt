-- `values::run_steps` meets its contract: each event of the two loops has its law in specs/Done and specs/Runs.
use Rattle.std.proofs.Common.{◌≡◌, ℕ, ◌+◌, ◌<◌, List, length, get_or, take, sym, refl, ◌∙◌, subst, arith, length-take-le}
use Rattle.paper.specs.declared.Work.{Work}
use Rattle.paper.specs.declared.Operation.TheVariants.{Works}
use Rattle.paper.specs.Limits.{word_bytes, scalar_at}
use Rattle.paper.specs.Numbers.{le_of, part}
use Rattle.recipe.specs.declared.Plan.{Plan}
use Rattle.recipe.specs.Whole.{steps_of, steps-count}
use Rattle.coded.specs.Codes.{NoNan, answered}
use Rattle.quick.specs.declared.operands.Pairing.{Pairing}
use Rattle.quick.specs.Cells.{answer_at}
use Rattle.values.specs.declared.Turn.{Turn}
use Rattle.values.specs.Done.{step_at, answer_to, Done, StepsDone, CellsDone, run-begins, step-begins, steps-long}
use Rattle.values.specs.Turns.{pairing_of, Computes}
use Rattle.values.specs.Found.{arrays_at, past, turn_in, begins-at, ready}
use Rattle.values.specs.Runs.{InTurn, Asked, few-cells, keeps, room-all, ended, worked-at, worked-on, refuses, untouched}
use Rattle.values.proofs.run_steps.Goals as goal
use Rattle.values.proofs.run_steps.Goals.{After-begin_cells-begun, After-computed-got, After-slot_of-in-steps, After-write_cell, At-cells, In-cells, In-steps, Start}

-- a step begins
module _ (c : After-slot_of-in-steps) where
  abbrev begins : In-steps
  begins = (goal.at.After-slot_of-in-steps c).In-steps

  abbrev start : Start
  start = (goal.at.After-slot_of-in-steps c).Start

  abbrev B : List ℕ
  B = start.args.bundle.now

  abbrev bs : List ℕ
  bs = start.args.recipe.now

  abbrev P : Plan
  P = start.args.plan

  abbrev W : List ℕ
  W = start.args.work.now

  abbrev s : ℕ
  s = begins.steps.s

  abbrev sofar : StepsDone (arrays_at B P) (steps_of bs P) W s begins.steps.work
  sofar = begins.steps.invariant.2

  here : s < length (steps_of bs P)
  here = omega (arith, steps-count start.requires.setting.laid, begins.steps-test.true)

  -- what it names, as it was found
  abbrev t : Turn
  t = record {
    step = (turn_in P s).step;
    a = get_or P.operands c.slot_of.result past;
    b = get_or P.operands c.slot_of-in-steps.result past;
    result = (turn_in P s).result;
  }

  same : turn_in P s ≡ t
  same i = record {
    step = (turn_in P s).step;
    a = get_or P.operands (sym c.slot_of.ensures.0 i) past;
    b = get_or P.operands (sym c.slot_of-in-steps.ensures.0 i) past;
    result = (turn_in P s).result;
  }

  -- it is ready, whatever the work area was
  turned : (X : List ℕ) (d : Done (arrays_at B P) (steps_of bs P) X s) → InTurn B bs t d
  turned X d =
      subst (λ (u : Turn). InTurn B bs u d) same
      (record { at = begins-at start.requires.setting d here; ready = ready start.requires.setting d here })

  abbrev asked : Asked B bs begins.steps.work t
  asked = record {
    arrays = arrays_at B P;
    steps = steps_of bs P;
    area = W;
    number = s;
    done = sofar.done;
    in-turn = turned W sofar.done;
    none = step-begins sofar here;
  }

pub steps-init : goal.steps-init
steps-init c =
    (omega arith, c.requires.setting.laid.few, run-begins _ _ _ c.requires.room, refl)

pub offset_bounds-plan-slot_of : goal.offset_bounds-plan-slot_of
offset_bounds-plan-slot_of c = omega (arith, c.slot_of.ensures.1)

pub bounds-plan-slot_of : goal.bounds-plan-slot_of
bounds-plan-slot_of c = omega (arith, c.slot_of.ensures.1)

pub offset_bounds-plan-slot_of-in-steps : goal.offset_bounds-plan-slot_of-in-steps
offset_bounds-plan-slot_of-in-steps c = omega (arith, c.slot_of-in-steps.ensures.1)

pub bounds-plan-slot_of-in-steps : goal.bounds-plan-slot_of-in-steps
bounds-plan-slot_of-in-steps c = omega (arith, c.slot_of-in-steps.ensures.1)

pub begin_cells-begun-requires : goal.begin_cells-begun-requires
begin_cells-begun-requires c = asked (goal.at.begin_cells-begun-requires c).After-slot_of-in-steps

-- its first cells are there
module _ (c : After-begin_cells-begun) where
  abbrev its : After-slot_of-in-steps
  its = (goal.at.After-begin_cells-begun c).After-slot_of-in-steps

  begun : CellsDone (sofar its).done c.begin_cells-begun.result.count c.begin_cells-begun.new.work
  begun = c.begin_cells-begun.ensures.filled (asked its)

-- the head of the loop over cells
module _ (c : At-cells) where
  abbrev first : After-begin_cells-begun
  first = (goal.at.At-cells c).After-begin_cells-begun

  abbrev on : InTurn (B (its first)) (bs (its first)) (t (its first)) (sofar (its first)).done
  on = turned (its first) _ _

  fill : CellsDone (sofar (its first)).done c.cells.k c.cells.work
  fill = c.cells.invariant.6 _ _ (begun first)

-- a turn of it
module _ (c : In-cells) where
  abbrev head : At-cells
  head = (goal.at.In-cells c).At-cells

  abbrev pairing : After-begin_cells-begun
  pairing = first head

  works : (w : Work) × ((t (its pairing)).step.operation ≡ Works w)
      × (pairing.begin_cells-begun.result.pairing ≡ pairing_of w (le_of (part ((t (its pairing)).step.at + scalar_at) word_bytes (bs (its pairing))))
      (t (its pairing)).a (t (its pairing)).b)
  works = pairing.begin_cells-begun.ensures.works (omega (arith, head.cells.invariant.0, c.cells-test.true))

  computed-here : Computes (B (its pairing)) (take (t (its pairing)).result.at head.cells.work) pairing.begin_cells-begun.result.pairing head.cells.k
      (answer_to (arrays_at (B (its pairing)) (P (its pairing))) (sofar (its pairing)).done.results (step_at (steps_of (bs (its pairing)) (P (its pairing))) (s (its pairing))) head.cells.k)
  computed-here = worked-at (on head) (fill head) works.0 works.1 _ works.2 head.cells.k c.cells-test.true

pub cells-init : goal.cells-init
cells-init c =
    let s = (goal.at.cells-init c).After-begin_cells-begun in
    let y = turned (its s) _ (sofar (its s)).done in
    let m = c.begin_cells-begun.ensures.most in
    (omega (arith, m), omega (arith, m), few-cells y (begun s), omega (arith, room-all y (begun s), keeps y (begun s) m), refl, refl, λ X d v. v)

pub slice_bounds-done-end-in-cells : goal.slice_bounds-done-end-in-cells
slice_bounds-done-end-in-cells c = let l = c.cells in sym (length-take-le _ l.work (omega (arith, l.invariant.3)))

pub raw_of-x-requires : goal.raw_of-x-requires
raw_of-x-requires c = (computed-here (goal.at.raw_of-x-requires c).In-cells).first

pub raw_of-y-requires : goal.raw_of-y-requires
raw_of-y-requires c = (computed-here (goal.at.raw_of-y-requires c).In-cells).second

pub computed-got-requires : goal.computed-got-requires
computed-got-requires c = λ z.
    let w = (computed-here (goal.at.computed-got-requires c).In-cells).words z in
    (subst NoNan (sym c.raw_of-x.ensures.1) w.0, subst NoNan (sym c.raw_of-y.ensures.1) w.1)

-- the answer at the cell
module _ (c : After-computed-got) where
  abbrev turn : In-cells
  turn = (goal.at.After-computed-got c).In-cells

  abbrev step : After-slot_of-in-steps
  step = its (pairing turn)

  abbrev q : Pairing
  q = (pairing turn).begin_cells-begun.result.pairing

  gave : c.computed-got.result ≡ answer_at (B step) (take (t step).result.at (head turn).cells.work) q (head turn).cells.k
  gave =
      let x = c.raw_of-x.ensures in
      let y = c.raw_of-y.ensures in
      c.computed-got.ensures ∙ (λ i. answered q.code (x.0 i) (x.1 i) (y.0 i) (y.1 i))

  kept : length (head turn).cells.work ≡ length (W step)
  kept = keeps (on (head turn)) (fill (head turn)) (head turn).cells.invariant.1

pub overflow_add-base : goal.overflow_add-base
overflow_add-base c =
    let s = (goal.at.overflow_add-base c).After-computed-got in
    omega (arith, (head (turn s)).cells.invariant.3, kept s, (turn s).cells-test.true, (start (step s)).well_formed)

pub refusal_of-requires : goal.refusal_of-requires
refusal_of-requires c =
    let s = (goal.at.refusal_of-requires c).After-computed-got in (
      omega (arith, (begins (step s)).steps.invariant.1, (begins (step s)).steps-test.true),
      omega (arith, (head (turn s)).cells.invariant.2, (turn s).cells-test.true),
    )

-- the cell is stored
module _ (c : After-write_cell) where
  abbrev at : After-computed-got
  at = (goal.at.After-write_cell c).After-computed-got

  next : (X : List ℕ) (d : Done (arrays_at (B (step at)) (P (step at))) (steps_of (bs (step at)) (P (step at))) X (s (step at)))
      → CellsDone d (pairing (turn at)).begin_cells-begun.result.count (pairing (turn at)).begin_cells-begun.new.work → CellsDone d ((head (turn at)).cells.k + 1) c.write_cell.new.d
  next X d v =
      let w = works (turn at) in
      worked-on (turned (step at) X d) ((head (turn at)).cells.invariant.6 X d v) w.0 w.1 (q at) w.2 (turn at).cells-test.true at.computed-got.result (gave at)
      _ c.in-Ok.is _ c.write_cell.ensures

  stays : length c.write_cell.new.d ≡ length (W (step at))
  stays = keeps (on (head (turn at))) (next _ _ (begun (pairing (turn at)))) (omega (arith, (turn at).cells-test.true))

pub cells-preserved : goal.cells-preserved
cells-preserved c =
    let s = (goal.at.cells-preserved c).After-write_cell in
    let l = (head (turn (at s))).cells in
    (omega (arith, l.invariant.0), omega (arith, (turn (at s)).cells-test.true), l.invariant.2, omega (arith, l.invariant.3, stays s, kept (at s)), stays s ∙ sym (kept (at s)) ∙ l.invariant.4, l.invariant.5, next s)

pub steps-preserved : goal.steps-preserved
steps-preserved c =
    let s = (goal.at.steps-preserved c).At-cells in
    let i = begins (its (first s)) in
    (omega (arith, i.steps-test.true), i.steps.invariant.1, ended (on s) (fill s) c.cells-test.false c.cells.invariant.1, c.cells.invariant.5 ∙ i.steps.invariant.3)

pub shape_of-work-after-steps : goal.shape_of-work-after-steps
shape_of-work-after-steps c = steps-long c.steps.invariant.2

pub returns-after-steps : goal.returns-after-steps
returns-after-steps c =
    let v = c.steps.invariant in
    rw v.3 (record { turn = _; steps = v.2; all = omega (arith, steps-count c.requires.setting.laid, c.steps-test.false) })

pub shape_of-work-in-Err : goal.shape_of-work-in-Err
shape_of-work-in-Err c = kept (goal.at.shape_of-work-in-Err c).After-computed-got

pub returns-in-Err : goal.returns-in-Err
returns-in-Err c =
    let s = (goal.at.returns-in-Err c).After-computed-got in
    let w = works (turn s) in
    let y = on (head (turn s)) in
    let f = fill (head (turn s)) in
    let t = (turn s).cells-test.true in
    rw c.refusal_of.ensures
    (record {
      is = sym (refuses y f w.0 w.1 (q s) w.2 t c.computed-got.result (gave s) _ c.in-Err.is);
      long = kept s;
      rest = untouched y f w.0 w.1 (q s) w.2 t c.computed-got.result (gave s);
    })
