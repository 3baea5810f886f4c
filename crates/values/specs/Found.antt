-- The run's setting: a bundle that was read and a recipe that was planned. What an operand's number names in it is the paper's array,
-- whose cells lie where the plan says; so each step is ready in its turn.
use Rattle.std.specs.Prelude.{◌≡◌, ℕ, zero, suc, ◌+◌, ◌-◌, ◌*◌, ◌^◌, ◌<◌, ◌≤◌, Bool, true, false, ◌||◌, leb, List, [], ◌∷◌, map, length, get_or, take, drop, ◌==◌, nat_le, slice_index_or, Option, None, Some}
use Rattle.std.specs.Option.{option_map}
use Rattle.std.proofs.Math.Path.{refl, sym, ap}
use Rattle.std.proofs.Common.{◌∙◌, arith, length-take, length-drop, get_or-take, take-take, length-take-le}
use borrow.Author.Tests.{eqb-true}
use Rattle.std.proofs.Math.ListN.{length-map}
use Rattle.paper.specs.declared.Head.{Head}
use Rattle.paper.specs.Limits.{most_arrays, most_steps, steps_from, cell_bytes, scalar_at, word_bytes}
use Rattle.paper.specs.Numbers.{le_of, part, nth}
use Rattle.paper.specs.Axes.{Shape, Array}
use Rattle.paper.specs.Bundle.{sizes_in}
use Rattle.paper.specs.Recipe.{Planned, cells_of_all, scalar_of, uses, operand, no_shape, unused_zero}
use Rattle.paper.specs.Values.{no_array, operand_array}
use Rattle.paper.specs.Listing.{result_bytes}
use Rattle.laws.specs.Tests.{and_left, no_both, some_one, no_none}
use Rattle.laws.specs.Steps.{Kept}
use Rattle.laws.specs.Numbers.{Bytes, le_of-lt, bytes_take, bytes_drop}
use Rattle.laws.specs.Kinds.{nothing}
use Rattle.laws.specs.Lists.{get_d_any, nth-some, nth-mapped, get_or-mapped, map-take}
use Rattle.laws.specs.Answers.{no_head}
use Rattle.laws.specs.Results.{results-bytes}
use Rattle.laws.specs.Passed.{Passed}
use Rattle.laws.specs.Sizes.{fits}
use Rattle.positions.specs.Runs.{Holds}
use Rattle.bundle.specs.Read.{array_at, Fit}
use Rattle.step.specs.declared.StepHead.{StepHead}
use Rattle.step.specs.Steps.{detail_of}
use Rattle.quick.specs.Operands.{bundle_side, work_side}
use Rattle.recipe.specs.declared.Operand.{Operand}
use Rattle.recipe.specs.declared.Plan.{Plan}
use Rattle.recipe.specs.Operands.{no_operand, placed, shape_in, no-shape, slot_of, slot-few}
use Rattle.recipe.specs.Stepped.{no_step, planned_of, ResultLaid}
use Rattle.recipe.specs.Whole.{arrays_of, results_of, steps_of, Laid, results-count, steps-count, result-there, step-there, laid-there}
use Rattle.values.specs.declared.Turn.{Turn}
use Rattle.values.specs.Lying.{bundle-lies, work-lies}
use Rattle.values.specs.Done.{shapes_in, planned_shapes, AllWhole, all-full, no_planned, step_at, begins, Done}
use Rattle.values.specs.Turns.{Stands, Ready}

-- the bundle's arrays
abbrev pub arrays_at : List ℕ → Plan → List Array
arrays_at B P = map (array_at B) (arrays_of P)

pub record Setting (B bs : List ℕ) (P : Plan) : Type 0 where
  pub laid : Laid bs P
  pub fit : (j : ℕ) → j < length (arrays_of P) → Fit B (slice_index_or (arrays_of P) j no_head)
  pub whole : AllWhole (arrays_at B P)
  pub passed : (j : ℕ) (d : Planned) → j < length (steps_of bs P)
      → Passed (sizes_in B) (map shape_in (arrays_of P)) (planned_shapes (take j (steps_of bs P))) (slice_index_or (steps_of bs P) j d)
  pub bytes : Bytes bs

-- ---- lists

-- the n-th of a list, where there is one
record Nth {A : Type 0} (l : List A) (n : ℕ) (x : A) : Type 0 where
  one : 1 ≤ n
  last : n ≤ length l
  is : (d : A) → slice_index_or l (n - 1) d ≡ x

nth-is : {A : Type 0} (l : List A) (n : ℕ) (x : A) → nth l n ≡ Some x → Nth l n x
nth-is l zero x e = absurd (no_none x e)
nth-is [] (suc n) x e = absurd (no_none x e)
nth-is (a ∷ l) (suc zero) x e = record { one = omega arith; last = omega arith; is = λ d. some_one a x e }
nth-is (a ∷ l) (suc (suc n)) x e =
    let r = nth-is l (suc n) x e in
    let p : suc n - 1 ≡ n = omega arith in
    let q : suc (suc n) - 1 ≡ suc n = omega arith in
    record { one = omega arith; last = omega (arith, r.last); is = λ d. rw q (rw p at (r.is d)) }

some_mapped : {A C : Type 0} (f : A → C) (o : Option A) (y : C) → option_map f o ≡ Some y → (x : A) × (o ≡ Some x) × (f x ≡ y)
some_mapped f None y e = absurd (no_none y e)
some_mapped f (Some x) y e = (x, refl, some_one (f x) y e)

whole_take : (As : List Array) (j : ℕ) → AllWhole As → AllWhole (take j As)
whole_take As zero h i b = absurd (omega arith)
whole_take [] (suc j) h i b = absurd (omega arith)
whole_take (A ∷ As) (suc j) h zero b = h 0 (omega arith)
whole_take (A ∷ As) (suc j) h (suc i) b = whole_take As j (λ m q. h (suc m) (omega arith)) i (omega arith)

-- ---- the operand of a number

-- the array that the paper takes, as the plan has it
pub record Found (B : List ℕ) (As Rs : List Array) (n : ℕ) (o : Operand) (S : Shape) : Type 0 where
  pub array : Array
  pub is : operand As Rs n ≡ Some array
  pub shape : array.shape ≡ S
  pub stands : Stands B (result_bytes Rs) o array

-- what an array of operands is read as past its end
abbrev pub past : Operand
past = record {
  found = false;
  which = 0;
  head = record {
    form = record { kind = 0; names = []; extent = record { rank = 0; axes = [] }; maximum = record { rank = 0; axes = [] } };
    at = 0;
    cells = 0;
  };
}

-- step s as the code finds it in the plan
abbrev pub turn_in : Plan → ℕ → Turn
turn_in P s = record {
  step = slice_index_or P.steps s no_step;
  a = slice_index_or P.operands (slot_of (get_or P.steps s no_step).a) past;
  b = slice_index_or P.operands (slot_of (get_or P.steps s no_step).b) past;
  result = (get_or P.operands (most_arrays + (s + 1)) past).head;
}

-- what is had for B, used or not
record HasB (B D : List ℕ) (used : Bool) (Z : Array) (o : Operand) (S : Shape) : Type 0 where
  shape : Z.shape ≡ S
  kept : Kept Z
  other : shape_in o.head ≡ Z.shape
  stands : used ≡ true → Stands B D o Z

or_left : (b c : Bool) → b ≡ false → (b || c) ≡ true → c ≡ true
or_left b c e h = rw e at h

-- a scalar fits its eight bytes
scalar_fits : (bs : List ℕ) (s : StepHead) → Bytes bs → Holds s.at (detail_of s) bs
    → le_of (part scalar_at word_bytes (part s.at (detail_of s) bs)) < 2 ^ 64
scalar_fits bs s h r =
    let at = s.at in
    let d = part at (detail_of s) bs in
    let n : length d ≡ detail_of s = length-take (detail_of s) (drop at bs) ∙ omega (arith, length-drop at bs, r.room) in
    let l : length (part scalar_at word_bytes d) ≡ word_bytes =
    length-take word_bytes (drop scalar_at d) ∙ omega (arith, length-drop scalar_at d, (fits s.version).scalar) in
    rw l at (le_of-lt (part scalar_at word_bytes d)
    (bytes_take word_bytes (drop scalar_at d) (bytes_drop scalar_at d (bytes_take (detail_of s) (drop at bs) (bytes_drop at bs h)))))

module _ {B bs : List ℕ} {P : Plan} (v : Setting B bs P) {W : List ℕ} {s : ℕ} (d : Done (arrays_at B P) (steps_of bs P) W s) where
  abbrev As : List Array
  As = arrays_at B P

  abbrev ps : List Planned
  ps = steps_of bs P

  abbrev Rs : List Array
  Rs = d.results

  -- step j before this one: its result's shape and where it begins
  module _ (j : ℕ) (b : j < s) where
    counted : j < P.count
    counted = omega (arith, steps-count v.laid, d.turns)

    result-shape : (get_or Rs j no_array).shape ≡ shape_in (slice_index_or (results_of P) j no_head)
    result-shape =
        sym (get_or-mapped (λ (A : Array). A.shape) Rs j no_array no_shape (omega (arith, d.count)))
        ∙ ap (λ (l : List Shape). get_or l j no_shape) d.shapes
        ∙ get_or-mapped (λ (p : Planned). p.shape) (take s ps) j no_planned no_shape (omega (arith, length-take-le s ps d.turns))
        ∙ ap (λ (p : Planned). p.shape) (get_or-take s ps j no_planned b ∙ step-there v.laid j counted no_planned)

    pub result-at : (get_or (results_of P) j no_head).at ≡ length (result_bytes (take j Rs))
    result-at =
        let shape : Planned → Shape = λ (p : Planned). p.shape in
        let e : shapes_in (take j Rs) ≡ planned_shapes (take j ps)
        = map-take (λ (A : Array). A.shape) j Rs ∙ ap (take j) (d.shapes ∙ map-take shape s ps) ∙ take-take j s (planned_shapes ps) (omega arith) ∙ sym (map-take shape j ps) in
        omega (arith, (laid-there v.laid j counted).from, results-bytes (take j Rs) (take j ps) e (all-full (take j Rs) (whole_take Rs j d.whole)))

  module _ (n : ℕ) where
    abbrev its : Operand
    its = slice_index_or P.operands (slot_of n) (no_operand false)

    in-bundle : leb n steps_from ≡ true → (h : Head) → nth (arrays_of P) n ≡ Some h → Found B As Rs n its (shape_in h)
    unfolding operand array_at
    in-bundle e h q =
        let l = arrays_of P in
        let w = nth-is l n h q in
        let b : n - 1 < length l = omega (arith, w.one, w.last) in
        let o : its ≡ placed bundle_side h = v.laid.named.at n ∙ rw (e, q, e) in
        let x : get_or As (n - 1) no_array ≡ array_at B h = get_or-mapped (array_at B) l (n - 1) no_head no_array b ∙ ap (array_at B) (w.is no_head) in
        record {
          array = array_at B h;
          is = rw e (nth-mapped (array_at B) l n ∙ rw q);
          shape = refl;
          stands = rw o (record {
            shape = refl;
            whole = rw x at (v.whole (n - 1) (omega (arith, b, length-map l (array_at B))));
            plain = refl;
            lies = bundle-lies B h (rw (w.is no_head) at (v.fit (n - 1) b));
          });
        }

    in-work : leb n steps_from ≡ false → (X : Array) → nth Rs (n - steps_from) ≡ Some X → Found B As Rs n its X.shape
    unfolding operand
    in-work e X q =
        let i = n - steps_from in
        let j = i - 1 in
        let w = nth-is Rs i X q in
        let b : j < length Rs = omega (arith, w.one, w.last) in
        let c : j < s = omega (arith, d.count) in
        let f = nth-some (results_of P) i no_head w.one (omega (arith, w.last, results-count v.laid, counted j c, d.count)) in
        let o : its ≡ placed work_side (slice_index_or (results_of P) j no_head) = v.laid.named.at n ∙ rw (e, f, e) in
        record {
          array = X;
          is = rw e q;
          shape = refl;
          stands = rw (o, ← w.is no_array) (record {
            shape = sym (result-shape j c);
            whole = d.whole j b;
            plain = refl;
            lies = rw (result-at j c) (work-lies Rs j b (d.whole j b).kept);
          });
        }

    found : (S : Shape) → operand (map shape_in (arrays_of P)) (shapes_in Rs) n ≡ Some S → Found B As Rs n its S
    unfolding operand
    found S e = by (nat_le n steps_from) refl
      where
        by : (t : Bool) → nat_le n steps_from ≡ t → Found B As Rs n its S
        by true h =
            let m = some_mapped shape_in (nth (arrays_of P) n) S (sym (nth-mapped shape_in (arrays_of P) n) ∙ (rw h at e)) in
            rw m.2 at (in-bundle h m.0 m.1)
        by false h =
            let m = some_mapped (λ (A : Array). A.shape) (nth Rs (n - steps_from)) S (sym (nth-mapped (λ (A : Array). A.shape) Rs (n - steps_from)) ∙ (rw h at e)) in
            rw m.2 at (in-work h m.0 m.1)

  -- ---- step s in its turn

  module _ (h : s < length (steps_of bs P)) where
    abbrev p : Planned
    p = step_at ps s

    abbrev A : Array
    A = operand_array As Rs p.step.a

    abbrev Z : Array
    Z = operand_array As Rs p.step.b

    turns : s < P.count
    turns = omega (arith, steps-count v.laid)

    passes : Passed (sizes_in B) (map shape_in (arrays_of P)) (planned_shapes (take s ps)) p
    passes = v.passed s no_planned h

    first : Found B As Rs p.step.a (its p.step.a) passes.first
    first = found p.step.a passes.first (rw d.shapes passes.is-first)

    first-is : A ≡ first.array
    first-is = rw first.is refl

    -- B, where it is used, and where it isn't
    has-b : HasB B (result_bytes Rs) (uses p.step.operation).b Z (its p.step.b) passes.second
    unfolding operand unused_zero
    has-b = by (uses p.step.operation).b refl
      where
        by : (b : Bool) → (uses p.step.operation).b ≡ b → HasB B (result_bytes Rs) b Z (its p.step.b) passes.second
        by true e =
            let f = found p.step.b passes.second (rw d.shapes (rw e at passes.is-second)) in
            let z : Z ≡ f.array = rw f.is refl in
            rw z (record { shape = f.shape; kept = f.stands.whole.kept; other = f.stands.shape; stands = λ u. f.stands })
        by false e =
            let n : p.step.b ≡ 0 = eqb-true p.step.b 0 (or_left (uses p.step.operation).b (p.step.b == 0) e (and_left _ _ passes.tested.unused)) in
            let q : no_shape ≡ passes.second = some_one no_shape passes.second (rw e at passes.is-second) in
            let z : Z ≡ no_array = rw n refl in
            let o : its p.step.b ≡ no_operand false = ap its n ∙ v.laid.named.at 0 in
            rw (z, o) (record { shape = q; kept = λ i. nothing 0; other = no-shape; stands = λ u. absurd (no_both false u refl) })

    abbrev t : Turn
    t = turn_in P s

    -- it is what is kept there
    there : (i : ℕ) → i ≤ most_arrays + most_steps → slice_index_or P.operands i past ≡ slice_index_or P.operands i (no_operand false)
    there i h = get_d_any P.operands i past (no_operand false) (omega (arith, v.laid.named.long))

    result-is : get_or (results_of P) s no_head ≡ t.result
    result-is = result-there v.laid s turns
        ∙ ap (λ (o : Operand). o.head) (sym (there (most_arrays + (s + 1)) (omega (arith, turns, v.laid.few))))

    kept_here : ResultLaid P.version bs (cells_of_all (take s ps) * cell_bytes) t.step t.result
    kept_here = rw result-is at (laid-there v.laid s turns)

    -- where its result begins
    pub begins-at : t.result.at ≡ begins ps s
    begins-at = omega (arith, kept_here.from)

    pub ready : Ready B bs (result_bytes Rs) A Z p t
    ready =
        let e : p ≡ planned_of bs t.step t.result = step-there v.laid s turns no_planned ∙ ap (planned_of bs t.step) result-is in
        let a : t.a ≡ its p.step.a = there (slot_of t.step.a) (slot-few t.step.a)
        ∙ ap (λ (x : Planned). its x.step.a) (sym e) in
        let b : t.b ≡ its p.step.b = there (slot_of t.step.b) (slot-few t.step.b)
        ∙ ap (λ (x : Planned). its x.step.b) (sym e) in
        let i : A.shape ≡ passes.first = ap (λ (X : Array). X.shape) first-is ∙ first.shape in
        record {
          step = ap (λ (x : Planned). x.step) e;
          shape = ap (λ (x : Planned). x.shape) e;
          tested = rw (i, has-b.shape) passes.tested;
          result = rw (i, has-b.shape) passes.shape;
          first = rw (a, first-is) first.stands;
          second = λ u. rw b (has-b.stands u);
          other = rw b has-b.other;
          kept = has-b.kept;
          scalar = rw (ap (λ (x : Planned). scalar_of x.step) e) (scalar_fits bs t.step v.bytes kept_here.detail);
          detail = kept_here.detail;
          small-first = rw a (v.laid.small (slot_of p.step.a)).small;
          small-second = rw b (v.laid.small (slot_of p.step.b)).small;
          small_result = kept_here.small;
          count = kept_here.count;
        }
