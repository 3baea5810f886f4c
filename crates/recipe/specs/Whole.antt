-- The whole recipe: what a plan holds in the paper's terms, and the two loops that make it, each as a record with a law for each event.
use Rattle.std.specs.Prelude.{ℕ, zero, suc, ◌+◌, ◌-◌, ◌*◌, ◌/◌, ◌%◌, ◌≤◌, ◌<◌, ◌≡◌, refl, Bool, true, false, ◌&&◌, List, [], ◌∷◌, ◌++◌, map, eqb, get_or, take, drop, set, replicate, Ok, Err}
use Rattle.std.proofs.Math.Path.{sym, ap}
use Rattle.std.proofs.Common.{ap₂, ◌∙◌, append-nil, add-one, arith, eqb-true, length-set, length-drop, get_or-take, get_or-drop, get_or-set_same, get_or-set_other, drop-drop, take-suc, take-suc-set, length-take-le}
use Rattle.std.proofs.lemmas.List.{map-append, length-map, length-replicate, drop-set-add, take-set-le}
use Rattle.std.proofs.lemmas.Bool.{eqb-false}
use Rattle.std.proofs.Math.ListN.{length}
use Rattle.paper.specs.declared.Version.{Version}
use Rattle.paper.specs.declared.Sizes.{Sizes}
use Rattle.paper.specs.declared.Head.{Head}
use Rattle.paper.specs.declared.Reading.{Reading}
use Rattle.paper.specs.declared.Refusal.{Refusal}
use Rattle.paper.specs.Limits.{most_arrays, most_steps, most_cells, cell_bytes, sizes_of}
use Rattle.paper.specs.Refusals.{Res, refusal, unknown4, between}
use Rattle.paper.specs.Numbers.{part, total}
use Rattle.paper.specs.Recipe.{Planned, plan_step, plan_steps, plan_recipe, cells_of_all}
use Rattle.paper.specs.Answers.{axes_of}
use Rattle.paper.specs.Axes.{cells}
use Rattle.laws.specs.Answers.{no_head}
use Rattle.laws.specs.Tests.{and_right, between-true}
use Rattle.laws.specs.Lists.{get_or-mapped, in_front_of, front-none, front-more, zipped, length-zipped, zipped-more, get_or-zipped}
use Rattle.quick.specs.Operands.{bundle_side, work_side}
use Rattle.step.specs.declared.StepHead.{StepHead}
use Rattle.recipe.specs.declared.Operand.{Operand}
use Rattle.recipe.specs.declared.Plan.{Plan}
use Rattle.recipe.specs.declared.steps.Stepped.{Stepped}
use Rattle.recipe.specs.Operands.{no_operand, placed, shape_in, Named, get_or-same, none_named, array-more, result-more}
use Rattle.recipe.specs.Stepped.{Fitting, fitting-none, no_step, planned_of, ResultLaid, Answered}

-- ---- what a plan holds

-- the heads of n operands, from number k on
abbrev pub heads_from : ℕ → ℕ → List Operand → List Head
heads_from k n l = map (λ (o : Operand). o.head) (take n (drop k l))

-- the bundle's arrays and the steps' results
abbrev pub arrays_of : Plan → List Head
arrays_of p = heads_from 1 p.arrays p.operands

abbrev pub results_of : Plan → List Head
results_of p = heads_from (suc most_arrays) p.count p.operands

abbrev pub heads_of : Plan → List StepHead
heads_of p = take p.count p.steps

-- the steps planned
abbrev pub steps_of : List ℕ → Plan → List Planned
steps_of bs p = zipped (planned_of bs) (heads_of p) (results_of p)

-- what stands under each number is small, and has no more axes than the version allows
abbrev pub AllSmall : Version → List Operand → Type 0
AllSmall v l = (n : ℕ) → Fitting v (axes_of (get_or l n (no_operand false)).head.form.extent)

-- each step's result lies after those before it, of which there are n cells
abbrev pub LaidFrom : Version → List ℕ → ℕ → List StepHead → List Head → Type 0
LaidFrom v bs n [] rs = Unit {0}
LaidFrom v bs n (h ∷ hs) [] = Unit {0}
LaidFrom v bs n (h ∷ hs) (r ∷ rs) = ResultLaid v bs (n * cell_bytes) h r × LaidFrom v bs (n + r.cells) hs rs

abbrev pub cells_in : List Head → ℕ
cells_in rs = total (map (λ (r : Head). r.cells) rs)

-- one operand more
module _ (k i : ℕ) (l : List Operand) (n : ℕ) (x : Operand) where
  heads-many : k + i ≤ length l → length (heads_from k i l) ≡ i
  heads-many h =
      length-map (take i (drop k l)) (λ (o : Operand). o.head) ∙ length-take-le i (drop k l) (omega (arith, length-drop k l))

  heads-more : n ≡ k + i → n < length l → heads_from k (i + 1) (set l n x) ≡ heads_from k i l ++ (x.head ∷ [])
  heads-more e h =
      let d : drop k (set l n x) ≡ set (drop k l) i x = ap (λ (j : ℕ). drop k (set l j x)) e ∙ drop-set-add k l i x in
      let t : take (i + 1) (drop k (set l n x)) ≡ take i (drop k l) ++ (x ∷ [])
      = ap₂ (λ (j : ℕ) (m : List Operand). take j m) (add-one i) d ∙ take-suc-set (drop k l) i x (omega (arith, length-drop k l)) in
      ap (map (λ (o : Operand). o.head)) t ∙ map-append (λ (o : Operand). o.head) (take i (drop k l)) (x ∷ [])

  heads-same : k + i ≤ n → heads_from k i (set l n x) ≡ heads_from k i l
  heads-same h =
      let e : k + (n - k) ≡ n = omega arith in
      ap (map (λ (o : Operand). o.head))
      (ap (λ (j : ℕ). take i (drop k (set l j x))) (sym e) ∙ ap (take i) (drop-set-add k l (n - k) x) ∙ take-set-le i (drop k l) (n - k) x (omega arith))

small-set : (u : Version) (l : List Operand) (k : ℕ) (x : Operand) → k < length l → AllSmall u l
    → Fitting u (axes_of x.head.form.extent)
    → AllSmall u (set l k x)
small-set u l k x h v w n = by (eqb n k) refl
  where
    by : (b : Bool) → eqb n k ≡ b → Fitting u (axes_of (get_or (set l k x) n (no_operand false)).head.form.extent)
    by true e = rw (eqb-true n k e, get_or-set_same l k x (no_operand false) h) w
    by false e = rw (get_or-set_other l k n x (no_operand false) (eqb-false n k e)) (v n)

-- ---- no step yet

abbrev pub empty_plan : Version → Plan
empty_plan v = record {
  version = v;
  arrays = 0;
  count = 0;
  cells = 0;
  steps = replicate most_steps no_step;
  operands = replicate (suc (most_arrays + most_steps)) (no_operand false);
}

-- the bundle's arrays, and that they are good
abbrev pub arrays_in : Reading → List Head
arrays_in r = take r.count r.heads

pub record GoodArrays (r : Reading) : Type 0 where
  pub room : r.count ≤ length r.heads
  pub few : r.count ≤ most_arrays
  pub small : (j : ℕ) (d : Head) → j < r.count → Fitting r.version (axes_of (get_or r.heads j d).form.extent)

-- some of them are named
pub record Begun (R : Reading) (p : Plan) : Type 0 where
  pub version : p.version ≡ R.version
  pub count : p.count ≡ 0
  pub cells : p.cells ≡ 0
  pub long : length p.steps ≡ most_steps
  pub turns : p.arrays ≤ R.count
  pub wide : length p.operands ≡ suc (most_arrays + most_steps)
  pub same : arrays_of p ≡ take p.arrays R.heads
  pub named : Named (arrays_of p) [] p.operands
  pub small : AllSmall R.version p.operands

pub begun-none : (R : Reading) (p : Plan) → p ≡ empty_plan R.version → Begun R p
begun-none R p e = rw e (record {
  version = refl;
  count = refl;
  cells = refl;
  long = length-replicate most_steps no_step;
  turns = omega arith;
  wide = length-replicate (suc (most_arrays + most_steps)) (no_operand false);
  same = refl;
  named = none_named;
  small = λ n. rw (get_or-same (suc (most_arrays + most_steps)) n (no_operand false)) (fitting-none R.version);
})

-- one array more
abbrev pub with_array : Plan → Head → Plan
with_array p h = record {
  version = p.version;
  arrays = p.arrays + 1;
  count = p.count;
  cells = p.cells;
  steps = p.steps;
  operands = set p.operands (p.arrays + 1) (placed bundle_side h);
}

pub begun_more : (R : Reading) (p : Plan) (d : Head) → GoodArrays R → Begun R p → p.arrays < R.count
    → Begun R (with_array p (get_or R.heads p.arrays d))
begun_more R p d g v h =
    let j = p.arrays in
    let x = placed bundle_side (get_or R.heads j d) in
    let b : j + 1 < length p.operands = omega (arith, v.wide, g.few) in
    let m = heads-many 1 j p.operands (j + 1) x (omega arith) in
    let e = heads-more 1 j p.operands (j + 1) x (omega arith) b in
    let f : suc (length (arrays_of p)) ≡ j + 1 = omega (arith, m) in
    record {
      version = v.version;
      count = v.count;
      cells = v.cells;
      long = v.long;
      turns = omega arith;
      wide = length-set p.operands (j + 1) x ∙ v.wide;
      same = e ∙ ap (λ (l : List Head). l ++ (x.head ∷ [])) v.same ∙ sym (rw (add-one j) (take-suc R.heads j d (omega (arith, g.room))));
      named = rw (e, ← f) (array-more (arrays_of p) [] p.operands v.named x.head (omega (arith, m, g.few)));
      small = small-set R.version p.operands (j + 1) x b v.small (g.small j d h);
    }

-- ---- the loop over the steps

-- those of p are planned, of n
pub record Loop (u : Version) (s : List ℕ) (n : ℕ) (p : Plan) : Type 0 where
  pub version : p.version ≡ u
  pub turns : p.count ≤ n
  pub few : n ≤ most_steps
  pub room : n * (sizes_of u).step ≤ length s
  pub long : length p.steps ≡ most_steps
  pub wide : length p.operands ≡ suc (most_arrays + most_steps)
  pub most : p.cells ≤ p.count * most_cells
  pub arrays : p.arrays ≤ most_arrays
  pub named : Named (arrays_of p) (results_of p) p.operands
  pub small : AllSmall u p.operands
  pub steps : in_front_of (steps_of s p) (plan_steps (sizes_of u) (p.count + 1) (n - p.count) (map shape_in (arrays_of p))
      (map shape_in (results_of p)) (drop (p.count * (sizes_of u).step) s))
      ≡ plan_steps (sizes_of u) 1 n (map shape_in (arrays_of p)) [] s
  pub laid : LaidFrom u s 0 (heads_of p) (results_of p)
  pub sum : p.cells ≡ cells_in (results_of p)

pub loop-start : (R : Reading) (s : List ℕ) (n : ℕ) (p : Plan) → GoodArrays R → Begun R p → n ≤ most_steps
    → n * (sizes_of R.version).step ≤ length s → Loop R.version s n p
unfolding total
loop-start R s n p g b h l =
    let c = b.count in
    let e : n - 0 ≡ n = omega arith in
    let z : 0 * (sizes_of R.version).step ≡ 0 = omega arith in
    record {
      version = b.version;
      turns = omega arith;
      few = h;
      room = l;
      long = b.long;
      wide = b.wide;
      most = omega (arith, b.cells);
      arrays = omega (arith, b.turns, g.few);
      named = rw c b.named;
      small = b.small;
      steps = rw (c, e, z) (front-none _);
      laid = rw c tt;
      sum = rw c b.cells;
    }

-- one step more
abbrev pub with_step : Plan → Stepped → Plan
with_step p o = record {
  version = p.version;
  arrays = p.arrays;
  count = p.count + 1;
  cells = p.cells + o.result.cells;
  steps = set p.steps p.count o.step;
  operands = set p.operands (most_arrays + (p.count + 1)) (placed work_side o.result);
}

total-more : (l : List ℕ) (n : ℕ) → total (l ++ (n ∷ [])) ≡ total l + n
unfolding total
total-more [] n = omega arith
total-more (m ∷ l) n = let e = total-more l n in omega arith

laid_more : (u : Version) (bs : List ℕ) (n : ℕ) (hs : List StepHead) (rs : List Head) (h : StepHead) (r : Head) → length hs ≡ length rs
    → LaidFrom u bs n hs rs
    → ResultLaid u bs ((n + cells_in rs) * cell_bytes) h r → LaidFrom u bs n (hs ++ (h ∷ [])) (rs ++ (r ∷ []))
unfolding total
laid_more u bs n [] [] h r e v k = let z : n + 0 ≡ n = omega arith in (rw z at k, tt)
laid_more u bs n [] (q ∷ rs) h r e v k = absurd (omega arith)
laid_more u bs n (g ∷ hs) [] h r e v k = absurd (omega arith)
laid_more u bs n (g ∷ hs) (q ∷ rs) h r e v k =
    let z : n + (q.cells + cells_in rs) ≡ n + q.cells + cells_in rs = omega arith in
    (v.0, laid_more u bs (n + q.cells) hs rs h r (omega arith) v.1 (rw z at k))

module _ {u : Version} {s : List ℕ} {n : ℕ} {p : Plan} (v : Loop u s n p) (h : p.count < n) where
  abbrev z : Sizes
  z = sizes_of u

  abbrev i : ℕ
  i = p.count

  -- what the paper says of the next step
  abbrev next : Res Planned
  next = plan_step z (i + 1) (map shape_in (arrays_of p)) (map shape_in (results_of p)) (part (i * z.step) z.step s)

  left : n - i ≡ suc (n - (i + 1))
  left = omega arith

  -- a refusal of the step is the recipe's
  pub steps-refused : {x : Refusal} → Answered u s (p.cells * cell_bytes) (Err x) next
      → Err x ≡ plan_steps z 1 n (map shape_in (arrays_of p)) [] s
  unfolding plan_steps in_front_of
  steps-refused {x} w = sym (rw (left, ← w)) ∙ v.steps

  module _ (o : Stepped) (w : Answered u s (p.cells * cell_bytes) (Ok o) next) where
    abbrev planned : Planned
    planned = planned_of s o.step o.result

    abbrev x : Operand
    x = placed work_side o.result

    abbrev at : ℕ
    at = most_arrays + (i + 1)

    here : at < length p.operands
    here = omega (arith, v.few, v.wide)

    pub arrays-same : arrays_of (with_step p o) ≡ arrays_of p
    arrays-same = heads-same 1 p.arrays p.operands at x (omega (arith, v.arrays))

    results-more : results_of (with_step p o) ≡ results_of p ++ (o.result ∷ [])
    results-more = heads-more (suc most_arrays) i p.operands at x (omega arith) here

    results-many : length (results_of p) ≡ i
    results-many = heads-many (suc most_arrays) i p.operands at x (omega (arith, here))

    heads-long : length (heads_of p) ≡ i
    heads-long = length-take-le i p.steps (omega (arith, v.few, v.long))

    steps_first : heads_of (with_step p o) ≡ heads_of p ++ (o.step ∷ [])
    steps_first =
        ap (λ (j : ℕ). take j (set p.steps i o.step)) (add-one i) ∙ take-suc-set p.steps i o.step (omega (arith, v.few, v.long))

    steps-more : steps_of s (with_step p o) ≡ steps_of s p ++ (planned ∷ [])
    steps-more =
        ap₂ (zipped (planned_of s)) steps_first results-more
        ∙ zipped-more (planned_of s) (heads_of p) (results_of p) o.step o.result (heads-long ∙ sym results-many)

    moved : drop ((i + 1) * z.step) s ≡ drop z.step (drop (i * z.step) s)
    moved = let f : i * z.step + z.step ≡ (i + 1) * z.step = omega arith in sym
        (drop-drop z.step (i * z.step) s ∙ ap (λ (j : ℕ). drop j s) f)

    onward : in_front_of (steps_of s p) (plan_steps z (i + 1) (n - i) (map shape_in (arrays_of p)) (map shape_in (results_of p))
        (drop (i * z.step) s))
        ≡ in_front_of (steps_of s p ++ (planned ∷ []))
        (plan_steps z (i + 1 + 1) (n - (i + 1)) (map shape_in (arrays_of p)) (map shape_in (results_of p) ++ (shape_in o.result ∷ []))
        (drop z.step (drop (i * z.step) s)))
    unfolding plan_steps
    onward = rw (left, ← w.0) (front-more (steps_of s p) planned _)

    pub loop-more : Loop u s n (with_step p o)
    loop-more =
        let k = w.1 in
        let f : most_arrays + suc (length (results_of p)) ≡ at = omega (arith, results-many) in
        let q : p.cells ≡ 0 + cells_in (results_of p) = omega (arith, v.sum) in
        record {
          version = v.version;
          turns = omega arith;
          few = v.few;
          room = v.room;
          long = length-set p.steps i o.step ∙ v.long;
          wide = length-set p.operands at x ∙ v.wide;
          most = omega (arith, v.most, k.count, k.small.few);
          arrays = v.arrays;
          named = rw (arrays-same, results-more, ← f) (result-more (arrays_of p) (results_of p) p.operands v.named o.result (omega (arith, results-many, v.few)));
          small = small-set u p.operands at x here v.small (record { small = k.small; few = k.few });
          steps = rw (arrays-same, steps-more, results-more, moved, map-append shape_in (results_of p) (o.result ∷ [])) (sym onward ∙ v.steps);
          laid = rw (
            steps_first,
            results-more,
          ) (laid_more u s 0 (heads_of p) (results_of p) o.step o.result (heads-long ∙ sym results-many) v.laid
              (rw q at k));
          sum = rw results-more (sym (ap total (map-append (λ (r : Head). r.cells) (results_of p) (o.result ∷ [])) ∙ total-more (map (λ (r : Head). r.cells) (results_of p)) o.result.cells ∙ ap (λ (a : ℕ). a + o.result.cells) (sym v.sum)));
        }

-- ---- the recipe

-- what later code leans on
pub record Laid (s : List ℕ) (p : Plan) : Type 0 where
  pub few : p.count ≤ most_steps
  pub long : length p.steps ≡ most_steps
  pub most : p.cells ≤ most_steps * most_cells
  pub arrays : p.arrays ≤ most_arrays
  pub named : Named (arrays_of p) (results_of p) p.operands
  pub small : AllSmall p.version p.operands
  pub laid : LaidFrom p.version s 0 (heads_of p) (results_of p)
  pub sum : p.cells ≡ cells_in (results_of p)

-- each step's result where it lies
laid-at : (u : Version) (bs : List ℕ) (n : ℕ) (hs : List StepHead) (rs : List Head) → LaidFrom u bs n hs rs → length hs ≡ length rs
    → (j : ℕ)
    → j < length hs
    → ResultLaid u bs ((n + cells_of_all (take j (zipped (planned_of bs) hs rs))) * cell_bytes) (get_or hs j no_step) (get_or rs j no_head)
unfolding total
laid-at u bs n [] rs v e j h = absurd (omega arith)
laid-at u bs n (g ∷ hs) [] v e j h = absurd (omega arith)
laid-at u bs n (g ∷ hs) (r ∷ rs) v e zero h = let z : n + 0 ≡ n = omega arith in rw z v.0
laid-at u bs n (g ∷ hs) (r ∷ rs) v e (suc j) h =
    let m = cells_of_all (take j (zipped (planned_of bs) hs rs)) in
    let z : n + (cells (axes_of r.form.extent) + m) ≡ n + r.cells + m = omega (arith, v.0.count) in
    rw z (laid-at u bs (n + r.cells) hs rs v.1 (omega arith) j (omega arith))

laid_cells : (u : Version) (bs : List ℕ) (n : ℕ) (hs : List StepHead) (rs : List Head) → LaidFrom u bs n hs rs → length hs ≡ length rs
    → cells_in rs ≡ cells_of_all (zipped (planned_of bs) hs rs)
unfolding total
laid_cells u bs n [] [] v e = refl
laid_cells u bs n [] (r ∷ rs) v e = absurd (omega arith)
laid_cells u bs n (g ∷ hs) [] v e = absurd (omega arith)
laid_cells u bs n (g ∷ hs) (r ∷ rs) v e = ap₂ (λ (a b : ℕ). a + b) v.0.count (laid_cells u bs (n + r.cells) hs rs v.1 (omega arith))

module _ {bs : List ℕ} {p : Plan} (v : Laid bs p) where
  heads-count : length (heads_of p) ≡ p.count
  heads-count = length-take-le p.count p.steps (omega (arith, v.few, v.long))

  pub results-count : length (results_of p) ≡ p.count
  results-count = heads-many (suc most_arrays) p.count p.operands 0 (no_operand false) (omega (arith, v.few, v.named.long))

  pub steps-count : length (steps_of bs p) ≡ p.count
  steps-count = length-zipped (planned_of bs) (heads_of p) (results_of p) (heads-count ∙ sym results-count) ∙ heads-count

  -- T
  pub cells-sum : p.cells ≡ cells_of_all (steps_of bs p)
  cells-sum = v.sum ∙ laid_cells p.version bs 0 (heads_of p) (results_of p) v.laid (heads-count ∙ sym results-count)

  module _ (j : ℕ) (h : j < p.count) where
    -- the result of step j, from 0, stands under its number
    pub result-there : get_or (results_of p) j no_head ≡ (get_or p.operands (most_arrays + (j + 1)) (no_operand false)).head
    result-there =
        let e : suc most_arrays + j ≡ most_arrays + (j + 1) = omega arith in
        get_or-mapped (λ (o : Operand). o.head) (take p.count (drop (suc most_arrays) p.operands)) j (no_operand false) no_head
        (omega (arith, results-count, length-map (take p.count (drop (suc most_arrays) p.operands)) (λ (o : Operand). o.head)))
        ∙ ap (λ (o : Operand). o.head) (get_or-take p.count (drop (suc most_arrays) p.operands) j (no_operand false) h
        ∙ get_or-drop (suc most_arrays) p.operands j (no_operand false))
        ∙ ap (λ (i : ℕ). (get_or p.operands i (no_operand false)).head) e

    pub step-there : (d : Planned) → get_or (steps_of bs p) j d ≡ planned_of bs (get_or p.steps j no_step) (get_or (results_of p) j no_head)
    step-there d =
        get_or-zipped (planned_of bs) (heads_of p) (results_of p) j no_step no_head d (omega (arith, heads-count)) (heads-count ∙ sym results-count)
        ∙ ap (λ (g : StepHead). planned_of bs g (get_or (results_of p) j no_head)) (get_or-take p.count p.steps j no_step h)

    pub laid-there : ResultLaid p.version bs (cells_of_all (take j (steps_of bs p)) * cell_bytes) (get_or p.steps j no_step)
        (get_or (results_of p) j no_head)
    laid-there =
        let c = cells_of_all (take j (steps_of bs p)) in
        let z : 0 + c ≡ c = omega arith in
        rw (z, get_or-take p.count p.steps j no_step h) at
        (laid-at p.version bs 0 (heads_of p) (results_of p) v.laid (heads-count ∙ sym results-count) j (omega (arith, heads-count)))

-- what the paper says of a recipe over the bundle's arrays
abbrev pub recipe_over : Reading → List ℕ → Res (List Planned)
recipe_over R s = plan_recipe (sizes_of R.version) (map shape_in (arrays_in R)) s

-- a recipe planned as the paper plans it, over the bundle's arrays
pub record Made (R : Reading) (s : List ℕ) (p : Plan) : Type 0 where
  pub said : Ok (steps_of s p) ≡ recipe_over R s
  pub laid : Laid s p
  pub arrays : arrays_of p ≡ arrays_in R
  pub version : p.version ≡ R.version

-- an answer with the plan that was lent: this plan, or the refusal
abbrev pub lent : Res (Unit {0}) → Plan → Res Plan
lent (Ok u) p = Ok p
lent (Err x) p = Err x

-- the same, or the refusal
abbrev pub PlannedAll : Reading → List ℕ → Res Plan → Type 0
PlannedAll R s (Ok p) = Made R s p
PlannedAll R s (Err x) = Err x ≡ recipe_over R s

-- its length
abbrev pub good_length : Sizes → List ℕ → Bool
good_length z s = eqb (length s % z.step) 0 && between 1 most_steps (length s / z.step)

pub length-few : (z : Sizes) (s : List ℕ) → good_length z s ≡ true → length s / z.step ≤ most_steps
length-few z s g = (between-true most_steps (length s / z.step) (and_right (eqb (length s % z.step) 0) _ g)).1

module _ (R : Reading) (s : List ℕ) where
  abbrev its : Sizes
  its = sizes_of R.version

  pub length-bad : good_length its s ≡ false → PlannedAll R s (Err (refusal unknown4 0 0))
  unfolding plan_recipe
  length-bad h = rw h

  module _ (g : good_length its s ≡ true) where
    length-good : plan_steps its 1 (length s / its.step) (map shape_in (arrays_in R)) [] s ≡ recipe_over R s
    unfolding plan_recipe
    length-good = rw g

    pub step-refused : {x : Refusal} → Err x ≡ plan_steps its 1 (length s / its.step) (map shape_in (arrays_in R)) [] s
        → PlannedAll R s (Err x)
    step-refused q = q ∙ length-good

    pub all-planned : {p : Plan} → Loop R.version s (length s / its.step) p → length s / its.step ≤ p.count → arrays_of p ≡ arrays_in R
        → PlannedAll R s (Ok p)
    unfolding plan_steps in_front_of
    all-planned {p} v h a =
        let e : length s / its.step - p.count ≡ 0 = omega (arith, v.turns) in
        record {
          said = ap Ok (sym (append-nil (steps_of s p))) ∙ sym (rw e refl) ∙ v.steps ∙ rw a length-good;
          laid = record {
            few = omega (arith, v.turns, v.few);
            long = v.long;
            most = omega (arith, v.most, v.turns, v.few);
            arrays = v.arrays;
            named = v.named;
            small = rw v.version v.small;
            laid = rw v.version v.laid;
            sum = v.sum;
          };
          arrays = a;
          version = v.version;
        }
