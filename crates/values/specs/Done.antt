-- The loop over steps and the loop over cells inside it: what holds at the head of each, and a law for each event: the run begins, a
-- step begins, a cell is stored, a cell refuses, a step ends, all are done. As are the bundle's arrays, ps the steps planned, and W is
-- the work area as it was lent.
use Rattle.std.specs.Prelude.{◌≡◌, ℕ, zero, suc, ◌+◌, ◌-◌, ◌*◌, ◌<◌, ◌≤◌, true, List, [], ◌∷◌, ◌++◌, map, length, get_or, take, drop, slice_index_or, refl, Ok, Err}
use Rattle.std.proofs.Math.Path.{sym, ap}
use Rattle.std.proofs.Common.{ap₂, ◌∙◌, append_assoc, append-nil, add-one, arith, length-drop, take_at, drop-drop, take-suc}
use Rattle.std.proofs.lemmas.List.{map-append}
use Rattle.std.proofs.Math.ListN.{length-append, drop_of_length-le}
use Rattle.std.proofs.Math.Seq.{drop-append-add, drop-cons}
use Rattle.paper.specs.declared.Fault.{Fault}
use Rattle.paper.specs.declared.Cell.{Cell}
use Rattle.paper.specs.declared.Cell.TheVariants.{Empty}
use Rattle.paper.specs.declared.Operation.TheVariants.{Moves}
use Rattle.paper.specs.declared.Move.TheVariants.{Trim}
use Rattle.paper.specs.Limits.{cell_bytes}
use Rattle.paper.specs.Refusals.{◌>>=◌, refusal, fault_no}
use Rattle.paper.specs.Numbers.{total, concat, over, le_bytes}
use Rattle.paper.specs.Axes.{cells, at_offset, build, Shape, Array}
use Rattle.paper.specs.Cells.{encode, cells_bytes, is_type}
use Rattle.paper.specs.Operators.{answered, Answer}
use Rattle.paper.specs.Recipe.{Planned, cells_of_all, no_shape}
use Rattle.paper.specs.Values.{cell_at, settled, no_array, operand_array, value_of, values_from, values}
use Rattle.paper.specs.Listing.{result_bytes, bytes_of_all}
use Rattle.laws.specs.Cells.{OfKind}
use Rattle.laws.specs.Places.{length-build, get_or-build}
use Rattle.laws.specs.Rows.{concat-map}
use Rattle.laws.specs.Lists.{in_front_of, front-none, front-more}
use Rattle.laws.specs.Results.{AllFull, cell-bytes, results-bytes}
use Rattle.values.specs.Lying.{Whole}

-- ---- bytes put one after the other

-- bytes e put where the bytes p end
put_on : (p e W work after : List ℕ) (at n : ℕ) → work ≡ over p W → at ≡ length p → n ≡ length e
    → after ≡ take at work ++ e ++ drop (at + n) work
    → after ≡ over (p ++ e) W
put_on p e W work after at n h a m q =
    let x : take at work ≡ p = ap (take at) h ∙ take_at p (drop (length p) W) at (sym a) in
    let y : drop (at + n) work ≡ drop (length (p ++ e)) W =
    ap (λ (i : ℕ). drop (i + n) work) a ∙ ap (drop (length p + n)) h ∙ drop-append-add p (drop (length p) W) n ∙ drop-drop n (length p) W
    ∙ ap (λ (i : ℕ). drop (length p + i) W) m ∙ ap (λ (i : ℕ). drop i W) (sym (length-append p e)) in
    q ∙ ap₂ (λ (l r : List ℕ). l ++ e ++ r) x y

pub length_over : (p W : List ℕ) → length p ≤ length W → length (over p W) ≡ length W
length_over p W h = length-append p (drop (length p) W) ∙ omega (arith, length-drop (length p) W)

nine : (c : Cell) → cell_bytes ≡ length (encode c)
unfolding encode le_bytes
nine c = refl

-- ---- steps and their cells

abbrev pub shapes_in : List Array → List Shape
shapes_in As = map (λ (A : Array). A.shape) As

abbrev pub planned_shapes : List Planned → List Shape
planned_shapes ps = map (λ (p : Planned). p.shape) ps

abbrev pub AllWhole : List Array → Type 0
AllWhole As = (i : ℕ) → i < length As → Whole (slice_index_or As i no_array)

pub all-full : (As : List Array) → AllWhole As → AllFull As
all-full [] h = tt
all-full (A ∷ As) h = ((h 0 (omega arith)).full, all-full As (λ i b. h (suc i) (omega arith)))

-- step s, from 0; past the last there is none
abbrev pub no_planned : Planned
no_planned = record { step = record { operation = Moves Trim; a = 0; b = 0; axis = 0; detail = [] }; shape = no_shape }

abbrev pub step_at : List Planned → ℕ → Planned
step_at ps s = slice_index_or ps s no_planned

-- where its result begins
abbrev pub begins : List Planned → ℕ → ℕ
begins ps s = bytes_of_all (take s ps)

-- what it gives at a coordinate, over the results before it
unfoldable pub cell_over : List Array → List Array → Planned → List ℕ → Answer
cell_over As Rs p = cell_at p.step.operation p.step (operand_array As Rs p.step.a) (operand_array As Rs p.step.b)

-- and at its cell k, from 0
abbrev pub answer_to : List Array → List Array → Planned → ℕ → Answer
answer_to As Rs p k = cell_over As Rs p (at_offset p.shape.axes k)

abbrev answers_of : List Array → List Array → Planned → List Answer
answers_of As Rs p = build p.shape.axes (cell_over As Rs p)

-- s steps done, with their results
pub record Done (As : List Array) (ps : List Planned) (W : List ℕ) (s : ℕ) : Type 0 where
  pub results : List Array
  pub turns : s ≤ length ps
  pub count : length results ≡ s
  pub so : in_front_of results (values_from (s + 1) As results (drop s ps)) ≡ values As ps
  pub shapes : shapes_in results ≡ planned_shapes (take s ps)
  pub whole : AllWhole results
  pub long : bytes_of_all ps ≤ length W

-- in the work area
pub record StepsDone (As : List Array) (ps : List Planned) (W : List ℕ) (s : ℕ) (work : List ℕ) : Type 0 where
  pub done : Done As ps W s
  pub bytes : work ≡ over (result_bytes done.results) W

-- and k cells of the next
pub record CellsDone {As : List Array} {ps : List Planned} {W : List ℕ} {s : ℕ} (d : Done As ps W s) (k : ℕ) (work : List ℕ) : Type 0 where
  pub here : s < length ps
  pub stored : List Cell
  pub count : length stored ≡ k
  pub so : in_front_of stored (settled (s + 1) (k + 1) (drop k (answers_of As d.results (step_at ps s))))
      ≡ settled (s + 1) 1 (answers_of As d.results (step_at ps s))
  pub kept : (i : ℕ) → OfKind (step_at ps s).shape.type (slice_index_or stored i Empty)
  pub bytes : work ≡ over (result_bytes d.results ++ cells_bytes stored) W

-- the run begins
pub run-begins : (As : List Array) (ps : List Planned) (W : List ℕ) → bytes_of_all ps ≤ length W → StepsDone As ps W 0 W
unfolding concat
run-begins As ps W h = record {
  done = record {
    results = [];
    turns = omega arith;
    count = refl;
    so = front-none (values_from 1 As [] ps);
    shapes = refl;
    whole = λ i b. absurd (omega arith);
    long = h;
  };
  bytes = refl;
}

-- what was done is a part of all
total-part : (l : List Planned) (i : ℕ) → i < length l → cells_of_all (take i l) + cells (step_at l i).shape.axes ≤ cells_of_all l
unfolding total
total-part [] i h = absurd (omega arith)
total-part (q ∷ l) zero h = omega arith
total-part (q ∷ l) (suc i) h = omega (arith, total-part l i (omega arith))

first_part : (l : List Planned) (i : ℕ) → cells_of_all (take i l) ≤ cells_of_all l
unfolding total
first_part l zero = omega arith
first_part [] (suc i) = omega arith
first_part (q ∷ l) (suc i) = omega (arith, first_part l i)

module _ {As : List Array} {ps : List Planned} {W : List ℕ} {s : ℕ} (d : Done As ps W s) where
  pub results-long : length (result_bytes d.results) ≡ begins ps s
  results-long = results-bytes d.results (take s ps) d.shapes (all-full d.results d.whole)

module _ {As : List Array} {ps : List Planned} {W : List ℕ} {s : ℕ} {work : List ℕ} (d : StepsDone As ps W s work) where
  -- a step begins
  pub step-begins : s < length ps → CellsDone d.done 0 work
  unfolding concat OfKind
  step-begins h = record {
    here = h;
    stored = [];
    count = refl;
    so = front-none (settled (s + 1) 1 (answers_of As d.done.results (step_at ps s)));
    kept = λ i. tt;
    bytes = d.bytes ∙ ap (λ (l : List ℕ). over l W) (sym (append-nil (result_bytes d.done.results)));
  }

  -- all are done
  pub run_ends : length ps ≤ s → Ok d.done.results ≡ values As ps
  unfolding values_from in_front_of
  run_ends h =
      let z : drop s ps ≡ [] = drop_of_length-le ps h in
      ap Ok (sym (append-nil d.done.results)) ∙ sym (rw z refl) ∙ d.done.so

  -- the work area keeps its length
  pub steps-long : length work ≡ length W
  steps-long = ap length d.bytes ∙ length_over (result_bytes d.done.results) W (omega (arith, results-long d.done, first_part ps s, d.done.long))

module _ {As : List Array} {ps : List Planned} {W : List ℕ} {s k : ℕ} {work : List ℕ} {d : Done As ps W s} (v : CellsDone d k work) where
  abbrev p : Planned
  p = step_at ps s

  abbrev n : ℕ
  n = cells p.shape.axes

  abbrev Rs : List Array
  Rs = d.results

  abbrev answers : List Answer
  answers = answers_of As Rs p

  answers-long : length answers ≡ n
  answers-long = length-build p.shape.axes _

  cells-long : length (cells_bytes v.stored) ≡ k * cell_bytes
  cells-long = omega (arith, cell-bytes v.stored, v.count)

  -- the step's result has room
  pub step_room : begins ps s + n * cell_bytes ≤ bytes_of_all ps
  step_room = omega (arith, total-part ps s v.here)

  so-long : length (result_bytes Rs ++ cells_bytes v.stored) ≡ begins ps s + k * cell_bytes
  so-long = omega (arith, length-append (result_bytes Rs) (cells_bytes v.stored), cells-long, results-long d)

  pub cells-kept : k ≤ n → length work ≡ length W
  cells-kept h = ap length v.bytes ∙ length_over (result_bytes Rs ++ cells_bytes v.stored) W (omega (arith, so-long, step_room, d.long))

  -- the earlier results are there
  pub earlier-there : take (begins ps s) work ≡ result_bytes Rs
  earlier-there =
      ap (take (begins ps s)) (v.bytes ∙ append_assoc (result_bytes Rs) (cells_bytes v.stored) _)
      ∙ take_at (result_bytes Rs) _ (begins ps s) (results-long d)

  -- what is past all results is untouched
  pub rest-there : k ≤ n → drop (bytes_of_all ps) work ≡ drop (bytes_of_all ps) W
  rest-there h =
      let q = result_bytes Rs ++ cells_bytes v.stored in
      let l : length q + (bytes_of_all ps - length q) ≡ bytes_of_all ps = omega (arith, so-long, step_room) in
      ap₂ (λ (i : ℕ) (x : List ℕ). drop i x) (sym l) v.bytes
      ∙ drop-append-add q (drop (length q) W) (bytes_of_all ps - length q)
      ∙ drop-drop (bytes_of_all ps - length q) (length q) W
      ∙ ap (λ (i : ℕ). drop i W) l

  module _ (b : k < n) (a : Answer) (q : answer_to As Rs p k ≡ a) where
    -- what is still to settle
    turn : settled (s + 1) (k + 1) (a ∷ drop (k + 1) answers) ≡ settled (s + 1) (k + 1) (drop k answers)
    turn =
        let e : suc k ≡ k + 1 = omega arith in
        let g : get_or answers k a ≡ a = get_or-build p.shape.axes _ k a b ∙ q in
        sym (ap (settled (s + 1) (k + 1)) (drop-cons answers k a (omega (arith, answers-long)) ∙ ap₂ (λ (x : Answer) (i : ℕ). x ∷ drop i answers) g e))

  one_more : (cs : List Cell) (c : Cell) → cells_bytes cs ++ encode c ≡ cells_bytes (cs ++ (c ∷ []))
  unfolding concat
  one_more cs c = ap (λ (l : List ℕ). cells_bytes cs ++ l) (sym (append-nil (encode c))) ∙ concat-map encode cs (c ∷ [])

  kept_more : (t : ℕ) (cs : List Cell) (c : Cell) → ((i : ℕ) → OfKind t (slice_index_or cs i Empty)) → OfKind t c → (i : ℕ)
      → OfKind t (slice_index_or (cs ++ (c ∷ [])) i Empty)
  unfolding OfKind
  kept_more t [] c f o zero = o
  kept_more t [] c f o (suc i) = tt
  kept_more t (x ∷ cs) c f o zero = f 0
  kept_more t (x ∷ cs) c f o (suc i) = kept_more t cs c (λ j. f (suc j)) o i

  -- a cell is stored
  pub cell-stored : k < n → (c : Cell) → answer_to As Rs p k ≡ Ok c → OfKind p.shape.type c → (at : ℕ) → at ≡ begins ps s + k * cell_bytes
      → (after : List ℕ) → after ≡ take at work ++ encode c ++ drop (at + cell_bytes) work → CellsDone d (k + 1) after
  unfolding settled answered
  cell-stored b c q o at e after h = record {
    here = v.here;
    stored = v.stored ++ (c ∷ []);
    count = length-append v.stored (c ∷ []) ∙ omega (arith, v.count);
    so = sym (ap (in_front_of v.stored) (sym (turn b (Ok c) q)) ∙ front-more v.stored c (settled (s + 1) (k + 1 + 1) (drop (k + 1) answers))) ∙ v.so;
    kept = kept_more p.shape.type v.stored c v.kept o;
    bytes = put_on (result_bytes Rs ++ cells_bytes v.stored) (encode c) W work after at cell_bytes v.bytes (e ∙ sym so-long) (nine c) h
        ∙ ap (λ (l : List ℕ). over l W) (append_assoc (result_bytes Rs) (cells_bytes v.stored) (encode c) ∙ ap (λ (l : List ℕ). result_bytes Rs ++ l) (one_more v.stored c));
  }

  -- a cell refuses: with it the values, at this step and this ordinality
  pub cell-refuses : k < n → (m : Fault) → answer_to As Rs p k ≡ Err m → Err (refusal (fault_no m) (s + 1) (k + 1)) ≡ values As ps
  unfolding settled answered in_front_of values_from value_of cell_over
  cell-refuses b m q =
      let e : Err (refusal (fault_no m) (s + 1) (k + 1)) ≡ settled (s + 1) 1 answers = ap (in_front_of v.stored) (turn b (Err m) q) ∙ v.so in
      let l : drop s ps ≡ p ∷ drop (suc s) ps = drop-cons ps s no_planned v.here in
      sym (rw (l, ← e) refl) ∙ d.so

  -- a step ends
  module _ (low : n ≤ k) (high : k ≤ n) (t : is_type p.shape.type ≡ true) where
    abbrev X : Array
    X = record { shape = p.shape; cells = v.stored }

    bytes-more : result_bytes Rs ++ cells_bytes v.stored ≡ result_bytes (Rs ++ (X ∷ []))
    unfolding concat
    bytes-more = ap (λ (l : List ℕ). result_bytes Rs ++ l) (sym (append-nil (cells_bytes v.stored))) ∙ concat-map (λ (X : Array). cells_bytes X.cells) Rs (X ∷ [])

    settled-all : Ok v.stored ≡ settled (s + 1) 1 answers
    unfolding settled in_front_of
    settled-all =
        let z : drop k answers ≡ [] = drop_of_length-le answers {i = k} (omega (arith, answers-long)) in
        ap Ok (sym (append-nil v.stored)) ∙ sym (rw z refl) ∙ v.so

    ended : in_front_of Rs (values_from (s + 1) As Rs (drop s ps))
        ≡ in_front_of Rs (values_from (s + 1 + 1) As (Rs ++ (X ∷ [])) (drop (s + 1) ps) >>= (λ l. Ok (X ∷ l)))
    unfolding values_from value_of cell_over
    ended =
        let l : drop s ps ≡ p ∷ drop (s + 1) ps = drop-cons ps s no_planned v.here ∙ ap (λ (i : ℕ). p ∷ drop i ps) (sym (add-one s)) in
        rw (l, ← settled-all)

    whole-more : (l : List Array) → AllWhole l → AllWhole (l ++ (X ∷ []))
    whole-more [] f zero b = record { type = t; full = omega (arith, v.count); kept = v.kept }
    whole-more [] f (suc i) b = absurd (omega arith)
    whole-more (Y ∷ l) f zero b = f 0 (omega arith)
    whole-more (Y ∷ l) f (suc i) b = whole-more l (λ j q. f (suc j) (omega arith)) i (omega arith)

    pub step-ends : StepsDone As ps W (s + 1) work
    step-ends = record {
      done = record {
        results = Rs ++ (X ∷ []);
        turns = omega (arith, v.here);
        count = length-append Rs (X ∷ []) ∙ omega (arith, d.count);
        so = sym (ended ∙ front-more Rs X _) ∙ d.so;
        shapes = map-append (λ (X : Array). X.shape) Rs (X ∷ []) ∙ ap (λ (l : List Shape). l ++ (p.shape ∷ [])) d.shapes
            ∙ sym (ap planned_shapes (ap (λ (i : ℕ). take i ps) (add-one s) ∙ take-suc ps s no_planned v.here) ∙ map-append (λ (x : Planned). x.shape) (take s ps) (p ∷ []));
        whole = whole-more Rs d.whole;
        long = d.long;
      };
      bytes = v.bytes ∙ ap (λ (l : List ℕ). over l W) bytes-more;
    }
