-- `recipe::plan_recipe` meets its contract: the loop over the steps, and what each way out answers.
use Rattle.std.proofs.lemmas.Result.{err_from_is_err_and}
use Rattle.std.specs.Prelude.{Ok, Err}
use Rattle.std.proofs.Common.{ℕ, ◌+◌, ◌*◌, ◌/◌, ◌%◌, ◌≤◌, ◌<◌, ◌≡◌, refl, sym, ap, subst, ◌∙◌, true, false, ◌&&◌, List, [], map, div-add-mod', arith, length, get_or, take, set, eqb}
use borrow.Author.Tests.{not-true, not-false}
use Rattle.paper.specs.declared.Version.{Version}
use Rattle.paper.specs.declared.Sizes.{Sizes}
use Rattle.paper.specs.declared.Reading.{Reading}
use Rattle.paper.specs.Refusals.{Res, between}
use Rattle.paper.specs.Limits.{cell_bytes, most_arrays, most_steps, sizes_of}
use Rattle.paper.specs.Numbers.{part}
use Rattle.paper.specs.Recipe.{operand, plan_step, plan_steps}
use Rattle.paper.specs.Answers.{axes_of}
use Rattle.laws.specs.Lists.{get_d_any}
use Rattle.laws.specs.Sizes.{fits}
use Rattle.shape.specs.Names.{names-room}
use Rattle.recipe.specs.declared.Operand.{Operand}
use Rattle.recipe.specs.declared.Plan.{Plan}
use Rattle.recipe.specs.declared.steps.Stepped.{Stepped}
use Rattle.recipe.specs.Operands.{no_operand, shape_in, found_shape, slot_of, named-shape}
use Rattle.recipe.specs.Stepped.{Fitting, Answered, PlannedAs}
use Rattle.recipe.specs.Whole.{arrays_in, arrays_of, results_of, Loop, loop-start, with_step, loop-more, arrays-same, steps-refused, good_length, length-bad, length-few, step-refused, all-planned}
use Rattle.recipe.proofs.plan_recipe.Goals as goal
use Rattle.recipe.proofs.plan_recipe.Goals.{After-over_arrays, After-plan_step, After-sizes-z, At-loop-plan, In_ok-one, In-loop-plan, Start}

-- the bytes of a step are the version's
module _ (c : After-sizes-z) where
  abbrev start : Start
  start = c.before.before.before

  abbrev R : Reading
  R = start.args.reading

  abbrev bs : List ℕ
  bs = start.args.s.now

  abbrev v : Version
  v = R.version

  abbrev z : Sizes
  z = sizes_of v

  abbrev long : ℕ
  long = c.sizes-z.result.step

  sized : long ≡ z.step
  sized = ap (λ (z : Sizes). z.step) c.sizes-z.ensures

  some_bytes : 0 < long
  some_bytes = let f = fits v in omega (arith, sized, f.step)

-- the length is good
module _ (c : After-over_arrays) where
  abbrev of : After-sizes-z
  of = (goal.at.After-over_arrays c).After-sizes-z

  length-told : (eqb (length (bs of) % long of) 0 && between 1 most_steps (length (bs of) / long of)) ≡ true
  length-told = sym c.good_length.ensures ∙ not-false _ c.if-not-good_length.false-raw

  good : good_length (z of) (bs of) ≡ true
  good = ap (λ (w : ℕ). eqb (length (bs of) % w) 0 && between 1 most_steps (length (bs of) / w)) (sym (sized of)) ∙ length-told

  begins : Loop (v of) (bs of) (length (bs of) / long of) c.over_arrays.new.plan
  begins =
      let n = length (bs of) / (z of).step in
      subst (λ (w : ℕ). Loop (v of) (bs of) (length (bs of) / w) c.over_arrays.new.plan) (sym (sized of))
      (loop-start (R of) (bs of) n c.over_arrays.new.plan (start of).requires c.over_arrays.ensures.0 (length-few (z of) (bs of) good)
      (omega (arith, div-add-mod' (length (bs of)) (z of).step)))

-- the steps planned so far
module _ (c : At-loop-plan) where
  abbrev its : Plan
  its = c.loop-plan.plan

  abbrev by : After-sizes-z
  by = (goal.at.At-loop-plan c).After-sizes-z

  over : arrays_of its ≡ arrays_in (R by)
  over = let e = c.over_arrays.ensures in c.loop-plan.invariant.1 ∙ e.0.same ∙ ap (λ (k : ℕ). take k (R by).heads) e.1

  -- what stands under an operand's number, whatever would stand past the last
  found : (i : ℕ) (d : Operand) → i ≤ most_arrays + most_steps → get_or its.operands i d ≡ get_or its.operands i (no_operand false)
  found i d h = get_d_any its.operands i d (no_operand false) (omega (arith, c.loop-plan.invariant.0.wide))

  small-found : (i : ℕ) (d : Operand) → i ≤ most_arrays + most_steps → Fitting (v by) (axes_of (get_or its.operands i d).head.form.extent)
  small-found i d h = rw (found i d h) (c.loop-plan.invariant.0.small i)

  shape-found : (k i : ℕ) (d : Operand) → i ≡ slot_of k → i ≤ most_arrays + most_steps
      → operand (map shape_in (arrays_of its)) (map shape_in (results_of its)) k ≡ found_shape (get_or its.operands i d)
  shape-found k i d e h =
      named-shape (arrays_of its) (results_of its) its.operands c.loop-plan.invariant.0.named k
      ∙ ap (λ (i : ℕ). found_shape (get_or its.operands i (no_operand false))) (sym e) ∙ ap found_shape (sym (found i d h))

  -- where a step's bytes lie
  step_room : its.count < length (bs by) / long by → its.count * long by + long by ≤ length (bs by)
  step_room h =
      let r = names-room its.count (length (bs by) / long by) (z by).step 0 (length (bs by)) h (omega (arith, c.loop-plan.invariant.0.room)) in
      let e : its.count * long by ≡ its.count * (z by).step = ap (λ (w : ℕ). its.count * w) (sized by) in
      omega (arith, r, e, sized by)

  longer : 16 ≤ long by
  longer = let f = fits (v by) in omega (arith, sized by, f.step, f.scalar)

-- the step judged
module _ (c : After-plan_step) where
  abbrev loop : At-loop-plan
  loop = (goal.at.After-plan_step c).At-loop-plan

  abbrev p : Plan
  p = its loop

  abbrev ss : List ℕ
  ss = bs (by loop)

  below : p.count < length ss / long (by loop)
  below = c.loop-plan-test.true

  -- the call's clause, of its answer and of each part of it, in the paper's terms
  answered : (d e : Operand) (r : Res Stepped)
      → PlannedAs ss (p.count * long (by loop)) (v (by loop)) (get_or p.operands c.slot_of.result d)
      (get_or p.operands c.slot_of-in-loop-plan.result e) (p.cells * cell_bytes) (p.count + 1) r
      → Answered (v (by loop)) ss (p.cells * cell_bytes) r
      (plan_step (z (by loop)) (p.count + 1) (map shape_in (arrays_of p)) (map shape_in (results_of p))
      (part (p.count * (z (by loop)).step) (z (by loop)).step ss))
  answered d e r w =
      let a = c.slot_of.ensures in
      let b = c.slot_of-in-loop-plan.ensures in
      subst (λ (w : ℕ). Answered (v (by loop)) ss (p.cells * cell_bytes) r
      (plan_step (z (by loop)) (p.count + 1) (map shape_in (arrays_of p)) (map shape_in (results_of p))
      (part (p.count * w) (z (by loop)).step ss))) (sized (by loop))
      (w.over _ _ (shape-found loop _ _ _ a.0 a.1) (shape-found loop _ _ _ b.0 b.1))

-- it is planned
module _ (c : In_ok-one) where
  abbrev judged : After-plan_step
  judged = (goal.at.In_ok-one c).After-plan_step

  abbrev one : Stepped
  one = c.in_ok-one.one

  said : Answered (v (by (loop judged))) (ss judged) ((p judged).cells * cell_bytes) (Ok one)
      (plan_step (z (by (loop judged))) ((p judged).count + 1) (map shape_in (arrays_of (p judged))) (map shape_in (results_of (p judged)))
      (part ((p judged).count * (z (by (loop judged))).step) (z (by (loop judged))).step (ss judged)))
  said = answered judged _ _ (Ok one) c.in_ok-one.ensures

  abbrev grown : Plan
  grown = with_step (p judged) one

  loop-grown : Loop (v (by (loop judged))) (ss judged) (length (ss judged) / long (by (loop judged))) grown
  loop-grown = loop-more (loop judged).loop-plan.invariant.0 (below judged) one said

  -- with its result as it was made
  abbrev grown_by : Operand → Plan
  grown_by o = record {
    version = grown.version;
    arrays = grown.arrays;
    count = grown.count;
    cells = grown.cells;
    steps = grown.steps;
    operands = set (p judged).operands (most_arrays + ((p judged).count + 1)) o;
  }

pub good_length-requires : goal.good_length-requires
good_length-requires c = some_bytes c

pub returns-then-not-good_length : goal.returns-then-not-good_length
returns-then-not-good_length c =
    let w = (goal.at.returns-then-not-good_length c).After-sizes-z in
    rw c.refuse.ensures
    (length-bad (R w) (bs w)
    (ap (λ (n : ℕ). eqb (length (bs w) % n) 0 && between 1 most_steps (length (bs w) / n))
    (sym (sized w)) ∙ sym c.good_length.ensures ∙ not-true _ c.if-not-good_length.true-raw))

pub loop-plan-init : goal.loop-plan-init
loop-plan-init c = (begins c, refl)

-- the first bytes of the step
module _ (c : In-loop-plan) where
  bytes-there : ((its (record { before = c.before.before; type_inv = record { s = c.shared_slice_known-1.given } })).count * long (by (record { before = c.before.before; type_inv = record { s = c.shared_slice_known-1.given } })) + 16 ≤ length (bs (by (record { before = c.before.before; type_inv = record { s = c.shared_slice_known-1.given } }))))
      × (length (bs (by (record { before = c.before.before; type_inv = record { s = c.shared_slice_known-1.given } }))) < 9223372036854775808)
  bytes-there =
      (omega (arith, step_room (record { before = c.before.before; type_inv = record { s = c.shared_slice_known-1.given } }) c.loop-plan-test.true, longer (record { before = c.before.before; type_inv = record { s = c.shared_slice_known-1.given } })), omega (arith, (by (record { before = c.before.before; type_inv = record { s = c.shared_slice_known-1.given } })).shared_slice_known-1.given 0))

pub plan_step-requires : goal.plan_step-requires
plan_step-requires c =
    let s = (goal.at.plan_step-requires c).At-loop-plan in
    let r = step_room s c.loop-plan-test.true in
    record { fitting = small-found s _ _ c.slot_of.ensures.1; fitting_2 = small-found s _ _ c.slot_of-in-loop-plan.ensures.1; v_in_bounds = omega (arith, r, sized (by s)) }

pub returns-in_err-one : goal.returns-in_err-one
returns-in_err-one c =
    let s = (goal.at.returns-in_err-one c).After-plan_step in
    let w = loop s in
    let r = err_from_is_err_and c.from_residual.result c.from_residual.ensures.1 in
    let q = steps-refused w.loop-plan.invariant.0 (below s) (answered s _ _ (Err _) c.in_err-one.ensures) in
    rw (r.1, r.2)
    (step-refused (R (by w)) (ss s) (good (goal.at.returns-in_err-one c).After-over_arrays)
    (rw (← over w) (q ∙ ap (λ (n : ℕ). plan_steps (z (by w)) 1 (length (ss s) / n) (map shape_in (arrays_of (p s))) [] (ss s)) (sized (by w)))))

pub offset_bounds-plan-result_at : goal.offset_bounds-plan-result_at
offset_bounds-plan-result_at c = let b = loop-grown (goal.at.offset_bounds-plan-result_at c).In_ok-one in omega (arith, b.turns, b.few)

pub bounds-plan-result_at : goal.bounds-plan-result_at
bounds-plan-result_at c = let b = loop-grown (goal.at.bounds-plan-result_at c).In_ok-one in omega (arith, b.turns, b.few)

pub overflow_add-plan : goal.overflow_add-plan
overflow_add-plan c = let b = loop-grown (goal.at.overflow_add-plan c).In_ok-one in omega (arith, b.most, b.turns, b.few)

pub loop-plan-smaller : goal.loop-plan-smaller
loop-plan-smaller c = let b = loop-grown (goal.at.loop-plan-smaller c).In_ok-one in omega (arith, b.turns)

pub loop-plan-preserved : goal.loop-plan-preserved
loop-plan-preserved c =
    let s = (goal.at.loop-plan-preserved c).In_ok-one in
    let x = judged s in
    let l = (loop x).loop-plan.invariant in
    let A = arrays_of (loop x).over_arrays.new.plan in
    subst (λ (o : Operand). Loop (v (by (loop x))) (ss x) (length (ss x) / long (by (loop x))) (grown_by s o)
    × (arrays_of (grown_by s o) ≡ A)) (sym c.in_work.ensures)
    (loop-grown s, arrays-same l.0 (below x) (one s) (said s) ∙ l.1)

pub returns : goal.returns
returns c =
    let s = (goal.at.returns c).At-loop-plan in
    all-planned (R (by s)) (bs (by s)) (good (goal.at.returns c).After-over_arrays)
    (subst (λ (n : ℕ). Loop (v (by s)) (bs (by s)) (length (bs (by s)) / n) (its s)) (sized (by s)) c.loop-plan.invariant.0)
    (subst (λ (n : ℕ). length (bs (by s)) / n ≤ (its s).count) (sized (by s)) c.loop-plan-test.false) (over s)

pub nonzero_div-n : goal.nonzero_div-n
nonzero_div-n c = some_bytes (goal.at.nonzero_div-n c).After-sizes-z

pub overflow_mul-base : goal.overflow_mul-base
overflow_mul-base c = omega (arith, bytes-there c)

pub overflow_add-base : goal.overflow_add-base
overflow_add-base c = omega (arith, bytes-there c)

pub bounds-s-base : goal.bounds-s-base
bounds-s-base c = omega (arith, bytes-there (goal.at.bounds-s-base c).In-loop-plan)

pub overflow_add-base-in-loop-plan : goal.overflow_add-base-in-loop-plan
overflow_add-base-in-loop-plan c = omega (arith, bytes-there (goal.at.overflow_add-base-in-loop-plan c).In-loop-plan)

pub bounds-s-base-in-loop-plan : goal.bounds-s-base-in-loop-plan
bounds-s-base-in-loop-plan c = omega (arith, bytes-there (goal.at.bounds-s-base-in-loop-plan c).In-loop-plan)

pub offset_bounds-plan-k : goal.offset_bounds-plan-k
offset_bounds-plan-k c = let b = loop-grown (goal.at.offset_bounds-plan-k c).In_ok-one in omega (arith, b.turns, b.few)

pub bounds-plan-k : goal.bounds-plan-k
bounds-plan-k c = let b = loop-grown (goal.at.bounds-plan-k c).In_ok-one in omega (arith, b.turns, b.few)
