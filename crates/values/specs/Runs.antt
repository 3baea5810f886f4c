-- What the functions of the values ask and promise: the cells of a step begun, and the steps run. Then a turn of the loop over cells:
-- what its calls ask, and what it leaves.
use Rattle.std.specs.Prelude.{◌≡◌, ℕ, zero, suc, ◌+◌, ◌*◌, ◌<◌, ◌≤◌, List, ◌++◌, length, take, drop, Err, Ok}
use Rattle.paper.specs.Operators.{Answer}
use Rattle.std.proofs.Math.Path.{refl, ap}
use Rattle.std.proofs.Common.{sym, ◌∙◌, arith}
use Rattle.std.proofs.Math.Numerals.{add-one}
use Rattle.paper.specs.declared.Cell.{Cell}
use Rattle.paper.specs.declared.Move.{Move}
use Rattle.paper.specs.declared.Work.{Work}
use Rattle.paper.specs.declared.Operation.TheVariants.{Moves, Works}
use Rattle.paper.specs.declared.Refusal.{Refusal}
use Rattle.paper.specs.Limits.{cell_bytes, word_bytes, scalar_at, most_cells}
use Rattle.paper.specs.declared.Fault.{Fault}
use Rattle.paper.specs.Refusals.{Res, refusal, fault_no}
use Rattle.paper.specs.Numbers.{le_of, part}
use Rattle.paper.specs.Axes.{cells, Array}
use Rattle.paper.specs.Cells.{encode}
use Rattle.paper.specs.Recipe.{Step, Planned, scalar_of}
use Rattle.paper.specs.Values.{operand_array, values}
use Rattle.paper.specs.Listing.{result_bytes, bytes_of_all}
use Rattle.laws.specs.Sizes.{fits}
use Rattle.step.specs.Steps.{scalar-there}
use Rattle.quick.specs.declared.operands.Pairing.{Pairing}
use Rattle.quick.specs.Cells.{answer_at, Workable, WorkedOut, Ahead}
use Rattle.recipe.specs.declared.Plan.{Plan}
use Rattle.recipe.specs.Whole.{steps_of}
use Rattle.values.specs.declared.Turn.{Turn}
use Rattle.values.specs.declared.Begun.{Begun}
use Rattle.values.specs.Done.{step_at, begins, cell_over, answer_to, Done, CellsDone, StepsDone, step_room, cells-kept, earlier-there, rest-there, cell-stored, cell-refuses, step-ends}
use Rattle.values.specs.Turns.{pairing_of, Ready, cells_are, cell_typed, result-typed, Computes, computes}
use Rattle.values.specs.Found.{arrays_at, Setting}

-- ---- what is asked and promised

-- a step in its turn, after the steps that are done
pub record InTurn (B bs : List ℕ) (t : Turn) {As : List Array} {ps : List Planned} {W : List ℕ} {s : ℕ} (d : Done As ps W s) : Type 0 where
  pub at : t.result.at ≡ begins ps s
  pub ready : Ready B bs (result_bytes d.results) (operand_array As d.results (step_at ps s).step.a)
      (operand_array As d.results (step_at ps s).step.b) (step_at ps s) t

-- none of its cells is there
pub record Asked (B bs work : List ℕ) (t : Turn) : Type 0 where
  pub arrays : List Array
  pub steps : List Planned
  pub area : List ℕ
  pub number : ℕ
  pub done : Done arrays steps area number
  pub in-turn : InTurn B bs t done
  pub none : CellsDone done 0 work

pub record AskedToMove (B bs work : List ℕ) (m : Move) (t : Turn) : Type 0 where
  pub asked : Asked B bs work t
  pub moves : t.step.operation ≡ Moves m

-- the scalar of its detail is there
pub scalar-room : {B bs work : List ℕ} {t : Turn} → Asked B bs work t → t.step.at + scalar_at + word_bytes ≤ length bs
scalar-room {t = t} a = omega (arith, a.in-turn.ready.detail.room, (fits t.step.version).scalar)

-- k of its cells are there
abbrev pub Filled : List ℕ → List ℕ → List ℕ → Turn → ℕ → List ℕ → Type 0
Filled B bs work t k after = (a : Asked B bs work t) → CellsDone a.done k after

-- and the others are worked out by the pairing
pub record Started (B bs work : List ℕ) (t : Turn) (r : Begun) (after : List ℕ) : Type 0 where
  pub most : r.count ≤ t.result.cells
  pub filled : Filled B bs work t r.count after
  pub works : r.count < t.result.cells → (w : Work) × (t.step.operation ≡ Works w)
      × (r.pairing ≡ pairing_of w (le_of (part (t.step.at + scalar_at) word_bytes bs)) t.a t.b)

-- a bundle read, a recipe planned, a work area that has room for all results
pub record Running (B bs : List ℕ) (P : Plan) (W : List ℕ) : Type 0 where
  pub setting : Setting B bs P
  pub room : bytes_of_all (steps_of bs P) ≤ length W

-- the results of all steps, whole, at the work area's beginning
pub record Results (B bs : List ℕ) (P : Plan) (W after : List ℕ) : Type 0 where
  pub turn : ℕ
  pub steps : StepsDone (arrays_at B P) (steps_of bs P) W turn after
  pub all : length (steps_of bs P) ≤ turn

-- stopped by a refusal: the bytes past all results are untouched
pub record Stopped (B bs : List ℕ) (P : Plan) (W : List ℕ) (r : Refusal) (after : List ℕ) : Type 0 where
  pub is : values (arrays_at B P) (steps_of bs P) ≡ Err r
  pub long : length after ≡ length W
  pub rest : drop (bytes_of_all (steps_of bs P)) after ≡ drop (bytes_of_all (steps_of bs P)) W

-- the results, or the refusal
abbrev pub Valued : List ℕ → List ℕ → Plan → List ℕ → Res (Unit {0}) → List ℕ → Type 0
Valued B bs P W (Ok u) after = Results B bs P W after
Valued B bs P W (Err x) after = Stopped B bs P W x after

-- ---- a turn of the loop over cells

module _ {B bs : List ℕ} {t : Turn} {As : List Array} {ps : List Planned} {W : List ℕ} {s : ℕ} {d : Done As ps W s} (y : InTurn B bs t d)
    {k : ℕ} {work : List ℕ}
    (f : CellsDone d k work) where
  abbrev n : ℕ
  n = t.result.cells

  abbrev p : Planned
  p = step_at ps s

  abbrev Rs : List Array
  Rs = d.results

  counts : n ≡ cells p.shape.axes
  counts = cells_are y.ready

  pub few-cells : n ≤ most_cells
  few-cells = omega (arith, y.ready.count, y.ready.small_result.few)

  -- the work area keeps its length, and has room for the step's cells
  pub keeps : k ≤ n → length work ≡ length W
  keeps h = cells-kept f (omega (arith, counts))

  pub room-all : t.result.at + n * cell_bytes ≤ length W
  room-all = omega (arith, step_room f, d.long, counts, y.at)

  pub earlier : take t.result.at work ≡ result_bytes Rs
  earlier = ap (λ (i : ℕ). take i work) y.at ∙ earlier-there f

  pub room : k < n → t.result.at + k * cell_bytes + cell_bytes ≤ length work
  room h = omega (arith, room-all, keeps (omega arith))

  -- a cell stored is the next
  pub stored : k < n → (c : Cell) → answer_to As Rs p k ≡ Ok c → (after : List ℕ)
      → after ≡ take (t.result.at + k * cell_bytes) work ++ encode c ++ drop (t.result.at + k * cell_bytes + cell_bytes) work → CellsDone d (k + 1) after
  unfolding cell_over
  stored h c q after e = cell-stored f (omega (arith, counts)) c q (cell_typed y.ready _ c q) (t.result.at + k * cell_bytes) (omega (arith, y.at)) after e

  -- the step ends
  pub ended : n ≤ k → k ≤ n → StepsDone As ps W (s + 1) work
  ended h l = step-ends f (omega (arith, counts)) (omega (arith, counts)) (result-typed y.ready)

  -- ---- cells worked out

  module _ (w : Work) (e : t.step.operation ≡ Works w) (q : Pairing)
      (z : q ≡ pairing_of w (le_of (part (t.step.at + scalar_at) word_bytes bs)) t.a t.b) where
    pub worked-at : (i : ℕ) → i < n → Computes B (take t.result.at work) q i (answer_to As Rs p i)
    unfolding cell_over
    worked-at i l =
        let v = ap le_of (scalar-there bs t.step) ∙ ap scalar_of (sym y.ready.step) in
        rw (earlier, z) (computes y.ready w (ap (λ (x : Step). x.operation) y.ready.step ∙ e) _ i v (omega (arith, counts)))

    -- what the loop's call gives
    module _ (h : k < n) (r : Answer) (is : r ≡ answer_at B (take t.result.at work) q k) where
      told : answer_to As Rs p k ≡ r
      told = sym (is ∙ (worked-at k h).is)

      pub worked-on : (c : Cell) → r ≡ Ok c → (after : List ℕ)
          → after ≡ take (t.result.at + k * cell_bytes) work ++ encode c ++ drop (t.result.at + k * cell_bytes + cell_bytes) work → CellsDone d (k + 1) after
      worked-on c u after e = stored h c (told ∙ u) after e

      pub refuses : (i : Fault) → r ≡ Err i → Err (refusal (fault_no i) (s + 1) (k + 1)) ≡ values As ps
      refuses i u = cell-refuses f (omega (arith, counts)) i (told ∙ u)

      pub untouched : drop (bytes_of_all ps) work ≡ drop (bytes_of_all ps) W
      untouched = rest-there f (omega (arith, counts))

-- ---- the quick loop: it has what it asks, and the cells that it stored are the step's

module _ {B bs W : List ℕ} {t : Turn} (a : Asked B bs W t) (w : Work) (e : t.step.operation ≡ Works w) (q : Pairing)
    (z : q ≡ pairing_of w (le_of (part (t.step.at + scalar_at) word_bytes bs)) t.a t.b) where
  pub workable : Workable B W t.result.at q t.result.cells
  workable = record {
    room = omega (arith, room-all a.in-turn a.none, keeps a.in-turn a.none (omega arith));
    first = λ k h. (worked-at a.in-turn a.none w e q z k h).first;
    second = λ k h. (worked-at a.in-turn a.none w e q z k h).second;
    words = λ k h. (worked-at a.in-turn a.none w e q z k h).words;
  }

  pub fills : (k : ℕ) (work : List ℕ) → k ≤ t.result.cells → WorkedOut B W t.result.at q k work → CellsDone a.done k work
  unfolding WorkedOut
  fills zero work l x = rw x a.none
  fills (suc k) work l x =
      let f = fills k x.work (omega arith) x.sofar in
      rw (← add-one k) (worked-on a.in-turn f w e q z (omega arith) (answer_at B (take t.result.at x.work) q k) refl x.last.cell x.last.is work x.last.bytes)

pub started : {B bs W : List ℕ} {t : Turn} (w : Work) (e : t.step.operation ≡ Works w) (q : Pairing)
    (z : q ≡ pairing_of w (le_of (part (t.step.at + scalar_at) word_bytes bs)) t.a t.b) (r : Begun) (after : List ℕ)
    → (r.pairing ≡ q) × Ahead B W t.result.at q t.result.cells r.count after → Started B bs W t r after
started w e q z r after h = record {
  most = h.1.most;
  filled = λ a. fills a w e q z r.count after h.1.most h.1.worked;
  works = λ l. (w, e, h.0 ∙ z);
}
