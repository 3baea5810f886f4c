-- One step's answer in the paper's terms: the step planned or the refusal, and what is kept of its result.
use Rattle.std.specs.Prelude.{ℕ, ◌+◌, ◌-◌, ◌≤◌, ◌<◌, ◌≡◌, refl, Bool, true, false, not, List, [], ◌∷◌, take, drop, get_or, if◌then◌else◌, Some, Ok, Err, None}
use Rattle.std.proofs.Math.Path.{sym, ap, subst}
use Rattle.std.proofs.Common.{ap₂, ◌∙◌, le_refl, le_of_eq, arith, ne_eqb, length-append, length-take, length-drop, get_or-take, get_or-drop, take_all, length-take-le}
use Rattle.std.proofs.Math.Nat.{le_trans}
use Rattle.std.proofs.Math.ListN.{length}
use Rattle.paper.specs.declared.Version.{Version}
use Rattle.paper.specs.declared.Version.TheVariants.{One}
use Rattle.paper.specs.declared.Sizes.{Sizes}
use Rattle.paper.specs.declared.Name.{Name}
use Rattle.paper.specs.declared.Axis.{Axis}
use Rattle.paper.specs.declared.Extent.{Extent}
use Rattle.paper.specs.declared.Form.{Form}
use Rattle.paper.specs.declared.Head.{Head}
use Rattle.paper.specs.declared.Refusal.{Refusal}
use Rattle.paper.specs.declared.Operation.{Operation}
use Rattle.paper.specs.declared.Operation.TheVariants.{Moves, Works}
use Rattle.paper.specs.declared.Move.TheVariants.{Trim, Slice, Reshape, Shift, Rename, Update, Put, Glue}
use Rattle.paper.specs.Limits.{head_bytes, limit_bytes, pair_bytes, scalar_at, word_bytes, sizes_of}
use Rattle.paper.specs.Refusals.{Res, refusal, unknown4, bad_result9}
use Rattle.paper.specs.Numbers.{part, none?, signed_at, position_at, moved}
use Rattle.paper.specs.Axes.{width, cells, limited, axis_at, Shape}
use Rattle.paper.specs.Recipe.{Step, Planned, operation, step_of, operand, no_shape, uses, axis_in, glued, result_names, result_axes, result_of, good_result, step_tests, step_result, step_over, plan_step}
use Rattle.paper.specs.Answers.{axes_of, names_for, shape_of}
use Rattle.laws.specs.Sizes.{fits}
use Rattle.laws.specs.Answers.{no_head, extent-axes}
use Rattle.laws.specs.Tests.{and_none, between-true}
use Rattle.laws.specs.Passed.{operand_b, tests-passed}
use Rattle.positions.specs.Runs.{Holds, part-part}
use Rattle.extent.specs.Judged.{Small, good_cells, good-none, good-some, good-small}
use Rattle.shape.specs.Built.{few-without}
use Rattle.shape.specs.Renewed.{length-anew}
use Rattle.step.specs.declared.StepHead.{StepHead}
use Rattle.step.specs.Steps.{detail_of, step_in, Detailed}
use Rattle.step.specs.Named.{NamesTold, names-many}
use Rattle.recipe.specs.declared.Operand.{Operand}
use Rattle.recipe.specs.declared.steps.Stepped.{Stepped}
use Rattle.recipe.specs.Operands.{no_operand, shape_in, found_shape, no-shape, small-none}

-- small, and with no more axes than a version allows
pub record Fitting (v : Version) (E : List Axis) : Type 0 where
  pub small : Small E
  pub few : length E ≤ (sizes_of v).axes

pub fitting-none : (v : Version) → Fitting v (axes_of no_head.form.extent)
fitting-none v = record { small = small-none; few = rw (extent-axes [] (omega arith)) (omega arith) }

-- what stands where there is no step
abbrev pub no_step : StepHead
no_step = record { operation = Moves Trim; a = 0; b = 0; axis = 0; at = 0; version = One }

-- a step planned in a recipe's bytes, with its result
abbrev pub planned_of : List ℕ → StepHead → Head → Planned
planned_of bs h r = record { step = step_in bs h; shape = shape_in r }

-- the step is of that version, its result is good, these are its cells, they begin at that byte, and the step's detail lies in the recipe
pub record ResultLaid (v : Version) (bs : List ℕ) (at : ℕ) (h : StepHead) (r : Head) : Type 0 where
  pub version : h.version ≡ v
  pub small : Small (axes_of r.form.extent)
  pub few : length (axes_of r.form.extent) ≤ (sizes_of v).axes
  pub count : r.cells ≡ cells (axes_of r.form.extent)
  pub from : r.at ≡ at
  pub detail : Holds h.at (detail_of h) bs

-- an answer: the step planned, and what is kept of its result; or the refusal
abbrev pub Answered : Version → List ℕ → ℕ → Res Stepped → Res Planned → Type 0
Answered v bs at (Ok r) m = (Ok (planned_of bs r.step r.result) ≡ m) × ResultLaid v bs at r.step r.result
Answered v bs at (Err x) m = Err x ≡ m

-- ---- the result judged

-- a result has no more axes than A
result-few : (op : Operation) (s : Step) (E F : List Axis) → axis_in (uses op) (length E) s.axis ≡ true
    → length (result_axes op s E F) ≤ length E
unfolding result_axes uses glued
result-few (Moves Trim) s E F h = le_of_eq (length-anew (λ (a : Axis) d. limited (position_at 0 d) (position_at limit_bytes d)) pair_bytes E
    s.detail)
result-few (Moves Slice) s E F h = few-without s.axis E
result-few (Moves Reshape) s E F h = le_of_eq (length-anew (λ (a : Axis) d. limited (position_at 0 d) (position_at limit_bytes d)) pair_bytes
    E s.detail)
result-few (Moves Shift) s E F h =
    le_of_eq (length-anew (λ (a : Axis) d. limited (moved a.lo (signed_at 0 d)) (moved a.hi (signed_at 0 d))) limit_bytes E s.detail)
result-few (Moves Rename) s E F h = le_refl (length E)
result-few (Moves Update) s E F h = le_refl (length E)
result-few (Moves Put) s E F h = le_refl (length E)
result-few (Moves Glue) s E F h =
    let k = s.axis in
    let q = between-true (length E) k h in
    omega (
      arith,
      q.0,
      q.1,
      length-append (take (k - 1) E) (limited (axis_at k E).lo ((axis_at k E).hi + width (axis_at k F)) ∷ drop k E),
      length-take (k - 1) E,
      length-drop k E,
    )
result-few (Works o) s E F h = le_refl (length E)

-- a step that passed its tests before 9
pub record Finishing (bs : List ℕ) (step : StepHead) (a b : Form) : Type 0 where
  pub first : Small (axes_of a.extent)
  pub second : Small (axes_of b.extent)
  pub detail : Detailed bs step (axes_of a.extent)
  pub axis : axis_in (uses step.operation) (length (axes_of a.extent)) step.axis ≡ true

abbrev pub Finished : List ℕ → StepHead → Form → Form → ℕ → ℕ → Res Stepped → Type 0
Finished bs step a b at k r = Answered step.version bs at r
    (step_result (sizes_of step.version) k (step_in bs step) (shape_of a) (shape_of b))

-- the result's names and axes
abbrev pub names_after : List ℕ → StepHead → Form → List Name
names_after bs step a = result_names (sizes_of step.version).name step.operation (step_in bs step)
    (names_for (axes_of a.extent) a.names)

abbrev pub axes_after : List ℕ → StepHead → Form → Form → List Axis
axes_after bs step a b = result_axes step.operation (step_in bs step) (axes_of a.extent) (axes_of b.extent)

module _ (bs : List ℕ) (step : StepHead) (a b : Form) (at k : ℕ) where
  abbrev axes : List Axis
  axes = axes_after bs step a b

  abbrev names : List Name
  names = names_after bs step a

  finish-no : good_result names axes ≡ false → Finished bs step a b at k (Err (refusal bad_result9 k 0))
  unfolding step_result
  finish-no h = rw h

  pub finish-bad : None ≡ good_cells names axes → Finished bs step a b at k (Err (refusal bad_result9 k 0))
  finish-bad h = finish-no (rw (good-none names axes (sym h)) (and_none (not (none? axes))))

  pub finish-none : length axes ≡ 0 → Finished bs step a b at k (Err (refusal bad_result9 k 0))
  finish-none h = finish-no (rw h)

  pub finish-good : (h : Head) → h.at ≡ at
      → Finishing bs step a b → shape_in h ≡ result_of (sizes_of step.version).name (step_in bs step) (shape_of a) (shape_of b)
      → Some h.cells ≡ good_cells names axes
      → (length axes ≡ 0 → ⊥) → Finished bs step a b at k (Ok (record { step = step; result = h }))
  unfolding step_result
  finish-good h i d q c w =
      let g = good-some names axes c in
      let f : axes_of h.form.extent ≡ axes = ap (λ (s : Shape). s.axes) q in (
        rw (ne_eqb (length axes) 0 w, g.0) (ap (λ (s : Shape). Ok (record { step = step_in bs step; shape = s })) q),
        record {
          version = refl;
          small = subst Small (sym f) (good-small names axes g.0);
          few = le_trans (le_of_eq (ap length f))
              (le_trans (result-few step.operation (step_in bs step) (axes_of a.extent) (axes_of b.extent) d.axis)
              d.detail.few);
          count = sym g.1 ∙ ap cells (sym f);
          from = i;
          detail = d.detail.holds;
        },
      )

-- the names told are the result's
pub names-after : (bs : List ℕ) (step : StepHead) (a b : Form) (new : List Name) (e : Extent)
    → NamesTold (sizes_of step.version).name step.operation (step_in bs step) a.names a.extent new
    → axes_of e ≡ axes_after bs step a b
    → length (axes_of a.extent) ≤ length a.names → axis_in (uses step.operation) (length (axes_of a.extent)) step.axis ≡ true
    → names_for (axes_of e) new ≡ names_after bs step a
names-after bs step a b new e t q l h =
    let E = axes_of a.extent in
    let N = names_for E a.names in
    let n : length (axes_of e) ≡ length (names_after bs step a) = ap length q
    ∙ sym (names-many (sizes_of step.version).name step.operation (step_in bs step) N E (axes_of b.extent)
    (length-take-le (length E) a.names l) h) in
    ap (λ (k : ℕ). take k new) n ∙ t

-- ---- the operands found

-- over arrays and earlier results of which these are what the step's numbers name
pub record Judged (bs : List ℕ) (step : StepHead) (a b : Operand) (at k : ℕ) (r : Res Stepped) : Type 0 where
  pub over : (arrays earlier : List Shape) → operand arrays earlier step.a ≡ found_shape a
      → operand arrays earlier step.b ≡ found_shape b
      → Answered step.version bs at r (step_over (sizes_of step.version) k arrays earlier (step_in bs step))

-- what is found for B
abbrev pub second_of : StepHead → Operand → Operand
second_of step b = if (uses step.operation).b then b else no_operand true

second-small : (step : StepHead) (b : Operand) → Fitting step.version (axes_of b.head.form.extent)
    → Small (axes_of (second_of step b).head.form.extent)
second-small step b s = by (uses step.operation).b
  where
    by : (t : Bool) → Small (axes_of (if t then b else no_operand true).head.form.extent)
    by true = s.small
    by false = small-none

-- the result is judged of a step that passed its tests
pub finishing : (bs : List ℕ) (step : StepHead) (a b : Operand) (k : ℕ)
    → Ok tt ≡ step_tests (sizes_of step.version) k (step_in bs step) (shape_in a.head) (shape_in (second_of step b).head)
    → Fitting step.version (axes_of a.head.form.extent) → Fitting step.version (axes_of b.head.form.extent)
    → Holds step.at (detail_of step) bs
    → Finishing bs step a.head.form (second_of step b).head.form
finishing bs step a b k t p q d =
    let A = shape_in a.head in
    let B = shape_in (second_of step b).head in
    record {
      first = p.small;
      second = second-small step b q;
      detail = record { holds = d; few = p.few };
      axis = (tests-passed {C = Unit {0}} (sizes_of step.version) k (step_in bs step) A B (Ok tt) tt (rw (← t))).0.axis;
    }

module _ (bs : List ℕ) (step : StepHead) (a b : Operand) (at k : ℕ) where
  abbrev st : Step
  st = step_in bs step

  second-found : (arrays earlier : List Shape) → operand arrays earlier step.b ≡ found_shape b
      → operand_b arrays earlier st ≡ found_shape (second_of step b)
  second-found arrays earlier e = by (uses step.operation).b
    where
      by : (t : Bool) → (if t then operand arrays earlier step.b else Some no_shape) ≡ found_shape (if t then b else no_operand true)
      by true = e
      by false = sym (ap Some no-shape)

  pub no-a : a.found ≡ false → Judged bs step a b at k (Err (refusal unknown4 k 0))
  unfolding step_over
  no-a h = record { over = λ arrays earlier p q. rw (p, h) }

  module _ (f : a.found ≡ true) where
    pub no-b : (second_of step b).found ≡ false → Judged bs step a b at k (Err (refusal unknown4 k 0))
    unfolding step_over
    no-b h = record { over = λ arrays earlier p q. rw (p, f, second-found arrays earlier q, h) }

    module _ (g : (second_of step b).found ≡ true) where
      abbrev tests : Res (Unit {0})
      tests = step_tests (sizes_of step.version) k st (shape_in a.head) (shape_in (second_of step b).head)

      pub test-failed : {x : Refusal} → Err x ≡ tests → Judged bs step a b at k (Err x)
      unfolding step_over
      test-failed t = record { over = λ arrays earlier p q. rw (p, f, second-found arrays earlier q, g, ← t) }

      pub tests-held : Ok tt ≡ tests → (r : Res Stepped) → Finished bs step a.head.form (second_of step b).head.form at k r
          → Judged bs step a b at k r
      unfolding step_over
      tests-held t r v = record {
        over = λ arrays earlier p q.
            let e : step_result (sizes_of step.version) k st (shape_in a.head) (shape_in (second_of step b).head) ≡ step_over
            (sizes_of step.version) k arrays earlier st
            = rw (p, f, second-found arrays earlier q, g, ← t) in
            subst (Answered step.version bs at r) e v;
      }

-- ---- a step's bytes in the recipe

module _ (s : List ℕ) (base : ℕ) (v : Version) where
  abbrev z : Sizes
  z = sizes_of v

  long : head_bytes + (scalar_at + word_bytes) ≤ z.step
  long = omega (arith, (fits v).step, (fits v).scalar)

  byte-there : (i : ℕ) → i < z.step → get_or s (base + i) 0 ≡ get_or (part base z.step s) i 0
  byte-there i h = sym (get_or-take z.step (drop base s) i 0 h ∙ get_or-drop base s i 0)

  detail-there : part (base + head_bytes) z.detail s ≡ drop head_bytes (part base z.step s)
  detail-there =
      let bs = part base z.step s in
      sym (part-part s base z.step head_bytes z.detail (omega (arith, (fits v).step)))
      ∙ take_all z.detail (drop head_bytes bs)
      (omega (arith, (fits v).step, length-drop head_bytes bs, length-take z.step (drop base s)))

  -- the step of operation op
  abbrev pub head_at : Operation → StepHead
  head_at op = record {
    operation = op;
    a = get_or s (base + 1) 0;
    b = get_or s (base + 2) 0;
    axis = get_or s (base + 3) 0;
    at = base + head_bytes;
    version = v;
  }

  step-there : (op : Operation) → step_in s (head_at op) ≡ step_of op (part base z.step s)
  step-there op =
      let a = byte-there 1 (omega (arith, long)) in
      let b = byte-there 2 (omega (arith, long)) in
      let x = byte-there 3 (omega (arith, long)) in
      λ i. record { operation = op; a = a i; b = b i; axis = x i; detail = detail-there i }

  op-there : operation (get_or s base 0) (get_or s (base + head_bytes) 0)
      ≡ operation (get_or (part base z.step s) 0 0) (get_or (part base z.step s) head_bytes 0)
  op-there =
      let z : base + 0 ≡ base = omega arith in
      ap₂ operation (ap (λ (j : ℕ). get_or s j 0) (sym z) ∙ byte-there 0 (omega (arith, long))) (byte-there head_bytes (omega (arith, long)))

  -- over arrays and earlier results of which these are what its numbers name
  pub record PlannedAs (a b : Operand) (at k : ℕ) (r : Res Stepped) : Type 0 where
    pub over : (arrays earlier : List Shape) → operand arrays earlier (get_or s (base + 1) 0) ≡ found_shape a
        → operand arrays earlier (get_or s (base + 2) 0) ≡ found_shape b
        → Answered v s at r (plan_step z k arrays earlier (part base z.step s))

  module _ (a b : Operand) (at k : ℕ) where
    pub step-unknown : None ≡ operation (get_or s base 0) (get_or s (base + head_bytes) 0) → PlannedAs a b at k (Err (refusal unknown4 k 0))
    unfolding plan_step
    step-unknown e =
        let o = sym op-there ∙ sym e in
        record { over = λ arrays earlier x y. rw o }

    pub step-known : (op : Operation) → Some op ≡ operation (get_or s base 0) (get_or s (base + head_bytes) 0) → (r : Res Stepped)
        → Judged s (head_at op) a b at k r → PlannedAs a b at k r
    unfolding plan_step
    step-known op e r w =
        let o = sym op-there ∙ sym e in
        record {
          over = λ arrays earlier x y.
              let f : step_over z k arrays earlier (step_in s (head_at op)) ≡ plan_step z k arrays earlier (part base z.step s)
              = rw o (ap (step_over z k arrays earlier) (step-there op)) in
              subst (Answered v s at r) f (w.over arrays earlier x y);
        }
