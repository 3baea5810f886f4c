-- A step that was planned passed its tests: what each test says of it, over the bundle's arrays and the results of earlier steps.
use Rattle.std.specs.Prelude.{ℕ, zero, suc, ◌+◌, ◌/◌, ◌%◌, ◌≤◌, ◌<◌, ◌≡◌, refl, true, ◌&&◌, List, [], ◌∷◌, ◌++◌, map, eqb, leb, length, get_or, take, drop, if◌then◌else◌, Option, Some, Ok}
use Rattle.std.proofs.Common.{sym, ap, subst, append_assoc, append-nil, arith, leb-true}
use Rattle.paper.specs.declared.Sizes.{Sizes}
use Rattle.paper.specs.declared.Operation.{Operation}
use Rattle.paper.specs.Limits.{head_bytes, most_steps}
use Rattle.paper.specs.Refusals.{Res, ◌>>◌, refusal, present, between, unknown4, bad_axis5, outside6, unfit7, bad_result9}
use Rattle.paper.specs.Axes.{Shape}
use Rattle.paper.specs.Recipe.{Step, Planned, operation, step_of, operand, no_shape, uses, unused_zero, axis_in, types_fit, agree, fits_in, result_of, good_result, step_tests, step_result, step_over, plan_step, plan_steps, plan_recipe}
use Rattle.laws.specs.Agreeing.{Agree, same-got}
use Rattle.laws.specs.Tests.{got-one, bind-got, ensure-got, ensured, present-got, and_left, and_right}

-- what a step's tests say of it and its operands
pub record Tested (z : Sizes) (s : Step) (A B : Shape) : Type 0 where
  pub unused : unused_zero (uses s.operation) z.name (length A.axes) s ≡ true
  pub axis : axis_in (uses s.operation) (length A.axes) s.axis ≡ true
  pub types : types_fit s.operation s A.type B.type ≡ true
  pub agrees : Agree s.operation s.axis A.names A.axes B.names B.axes
  pub fits : fits_in s.operation s A B ≡ true

pub tests-passed : {C : Type 0} (z : Sizes) (k : ℕ) (s : Step) (A B : Shape) (m : Res C) (c : C) → (step_tests z k s A B >> m) ≡ Ok c
    → Tested z s A B × (m ≡ Ok c)
unfolding step_tests
tests-passed z k s A B m c e =
    let op = s.operation in
    let h = bind-got (step_tests z k s A B) (λ u. m) c e in
    let u = ensure-got (unused_zero (uses op) z.name (length A.axes) s) unknown4 k _ tt h.1 in
    let x = ensure-got (axis_in (uses op) (length A.axes) s.axis) bad_axis5 k _ tt u.1 in
    let t = ensure-got (types_fit op s A.type B.type) unfit7 k _ tt x.1 in
    let g = same-got (agree op s.axis A.names A.axes B.names B.axes) k _ tt t.1 in
    let f = ensured (fits_in op s A B) outside6 k g.1 in
    (record { unused = u.0; axis = x.0; types = t.0; agrees = g.0; fits = f }, h.2)

-- operand B, where a step uses one
abbrev pub operand_b : List Shape → List Shape → Step → Option Shape
operand_b arrays earlier s = if (uses s.operation).b then operand arrays earlier s.b else Some no_shape

-- a step with its operands
pub record Passed (z : Sizes) (arrays earlier : List Shape) (p : Planned) : Type 0 where
  pub first : Shape
  pub second : Shape
  pub is-first : operand arrays earlier p.step.a ≡ Some first
  pub is-second : operand_b arrays earlier p.step ≡ Some second
  pub tested : Tested z p.step first second
  pub shape : p.shape ≡ result_of z.name p.step first second
  pub good : good_result p.shape.names p.shape.axes ≡ true

plan-passed : (z : Sizes) (k : ℕ) (arrays earlier : List Shape) (bs : List ℕ) (p : Planned) → plan_step z k arrays earlier bs ≡ Ok p
    → Passed z arrays earlier p
unfolding plan_step step_over step_result
plan-passed z k arrays earlier bs p e =
    let o = bind-got {A = Operation} (present (operation (get_or bs 0 0) (get_or bs head_bytes 0)) (refusal unknown4 k 0)) _ p e in
    let s = step_of o.0 bs in
    let a = bind-got {A = Shape} (present (operand arrays earlier s.a) (refusal unknown4 k 0)) _ p o.2 in
    let b = bind-got {A = Shape} (present (operand_b arrays earlier s) (refusal unknown4 k 0)) _ p a.2 in
    let A : Shape = a.0 in
    let B : Shape = b.0 in
    let t = tests-passed z k s A B _ p b.2 in
    let r = ensure-got (good_result (result_of z.name s A B).names (result_of z.name s A B).axes) bad_result9 k
    (Ok (record { step = s; shape = result_of z.name s A B })) p t.1 in
    subst (Passed z arrays earlier) (got-one (record { step = s; shape = result_of z.name s A B }) p r.1)
    (record {
      first = A;
      second = B;
      is-first = present-got (operand arrays earlier s.a) (refusal unknown4 k 0) A a.1;
      is-second = present-got (operand_b arrays earlier s) (refusal unknown4 k 0) B b.1;
      tested = t.0;
      shape = refl;
      good = r.0;
    })

abbrev shapes_of : List Planned → List Shape
shapes_of ps = map (λ (p : Planned). p.shape) ps

steps-passed : (z : Sizes) (n k : ℕ) (arrays earlier : List Shape) (bs : List ℕ) (ps : List Planned)
    → plan_steps z k n arrays earlier bs ≡ Ok ps
    → (length ps ≡ n) × ((j : ℕ) (d : Planned) → j < length ps → Passed z arrays (earlier ++ shapes_of (take j ps)) (get_or ps j d))
unfolding plan_steps
steps-passed z zero k arrays earlier bs ps e =
    subst (λ (l : List Planned). (length l ≡ 0)
    × ((j : ℕ) (d : Planned) → j < length l → Passed z arrays (earlier ++ shapes_of (take j l)) (get_or l j d))) (got-one [] ps e)
    (refl, λ j d h. absurd (omega arith))
steps-passed z (suc n) k arrays earlier bs ps e =
    let a = bind-got (plan_step z k arrays earlier (take z.step bs)) _ ps e in
    let b = bind-got (plan_steps z (k + 1) n arrays (earlier ++ (a.0.shape ∷ [])) (drop z.step bs)) _ ps a.2 in
    let r = steps-passed z n (k + 1) arrays (earlier ++ (a.0.shape ∷ [])) (drop z.step bs) b.0 b.1 in
    subst (λ (l : List Planned). (length l ≡ suc n)
    × ((j : ℕ) (d : Planned) → j < length l → Passed z arrays (earlier ++ shapes_of (take j l)) (get_or l j d)))
    (got-one (a.0 ∷ b.0) ps b.2)
    (ap suc r.0, each a.0 b.0 a.1 r.1)
  where
    each : (p : Planned) (l : List Planned) → plan_step z k arrays earlier (take z.step bs) ≡ Ok p
        → ((j : ℕ) (d : Planned) → j < length l → Passed z arrays ((earlier ++ (p.shape ∷ [])) ++ shapes_of (take j l)) (get_or l j d))
        → (j : ℕ) (d : Planned) → j < suc (length l) → Passed z arrays (earlier ++ shapes_of (take j (p ∷ l))) (get_or (p ∷ l) j d)
    each p l q f zero d h = subst (λ (m : List Shape). Passed z arrays m p) (sym (append-nil earlier))
        (plan-passed z k arrays earlier (take z.step bs) p q)
    each p l q f (suc j) d h = subst (λ (m : List Shape). Passed z arrays m (get_or l j d))
        (append_assoc earlier (p.shape ∷ []) (shapes_of (take j l))) (f j d (omega arith))

-- each step of a recipe planned
pub recipe-passed : (z : Sizes) (arrays : List Shape) (bs : List ℕ) (ps : List Planned) → plan_recipe z arrays bs ≡ Ok ps
    → (1 ≤ length ps) × ((j : ℕ) (d : Planned) → j < length ps
    → Passed z arrays (map (λ (p : Planned). p.shape) (take j ps)) (get_or ps j d))
unfolding plan_recipe
recipe-passed z arrays bs ps e =
    let t = ensure-got (eqb (length bs % z.step) 0 && between 1 most_steps (length bs / z.step)) unknown4 0 _ ps e in
    let r = steps-passed z (length bs / z.step) 1 arrays [] bs ps t.1 in
    let l = leb-true 1 (length bs / z.step) (and_left (leb 1 (length bs / z.step)) _
    (and_right (eqb (length bs % z.step) 0) _ t.0)) in
    (omega (arith, r.0), r.1)
