-- `recipe::steps::step_tests` meets its contract: the first test that fails, or that none does.
use Rattle.std.proofs.Common.{ℕ, ◌≡◌, sym, ap, subst, ◌∙◌, Bool, true, false, not, ◌||◌, arith, length, ne_eqb}
use borrow.Author.Tests.{not-true, not-false}
use Rattle.paper.specs.Refusals.{outside6, between, ensure}
use Rattle.paper.specs.Axes.{Shape}
use Rattle.paper.specs.Recipe.{Step, uses, unused_zero, axis_in, types_fit, agree, step_tests}
use Rattle.paper.specs.Answers.{shape_of}
use Rattle.paper.specs.declared.Sizes.{Sizes}
use Rattle.paper.specs.Limits.{sizes_of}
use Rattle.laws.specs.Sizes.{fits}
use Rattle.step.specs.Steps.{step_in}
use Rattle.step.specs.Using.{Column, column, axis-by, unused-by}
use Rattle.recipe.proofs.steps.step_tests.Goals as goal
use Rattle.recipe.proofs.steps.step_tests.Goals.{After-axis_in, After-difference-d, After-fits_in, After-types_fit, After-unused_zero, Else-d-ne0, Else-not-axis_in, Else-not-types_fit, Else-not-unused_zero, Start}

module _ (c : Start) where
  abbrev st : Step
  st = step_in c.args.s.now c.args.step

  abbrev A : Shape
  A = shape_of c.args.a

  abbrev B : Shape
  B = shape_of c.args.b

  abbrev z : Sizes
  z = sizes_of c.args.step.version

  uses-by : Column st.operation z (length A.axes) c.args.used
  uses-by = subst (Column st.operation z (length A.axes)) (sym c.requires.used_value)
      (column st.operation z (length A.axes) (fits c.args.step.version))

-- 4
module _ (c : After-unused_zero) where
  abbrev start : Start
  start = c.before.before.before

  unused-told : (b : Bool) → c.unused_zero.result ≡ b
      → unused_zero (uses (st start).operation) (z start).name (length (A start).axes) (st start) ≡ b
  unused-told b e = sym (unused-by _ _ _ _ (uses-by start) (st start)) ∙ sym c.unused_zero.ensures ∙ e

module _ (c : Else-not-unused_zero) where
  abbrev in4 : Start
  in4 = start (record { before = c.before.before; type_inv = record { s = c.shared_slice_known-1.given } })

  held4 : unused_zero (uses (st in4).operation) (z in4).name (length (A in4).axes) (st in4) ≡ true
  held4 = unused-told (record { before = c.before.before; type_inv = record { s = c.shared_slice_known-1.given } }) true (not-false _ c.if-not-unused_zero.false-raw)

-- 5
module _ (c : After-axis_in) where
  abbrev past4 : Else-not-unused_zero
  past4 = record { before = c.before.before.before.before; type_inv = record { s = c.shared_slice_known-1.given } }

  axis-told : (b : Bool) → c.axis_in.result ≡ b → axis_in (uses (st (in4 past4)).operation) (length (A (in4 past4)).axes) (st (in4 past4)).axis ≡ b
  axis-told b e =
      sym (axis-by _ _ _ _ (uses-by (in4 past4)) (st (in4 past4)).axis)
      ∙ ap (λ (n : ℕ). not (in4 past4).args.used.axis || between 1 n (st (in4 past4)).axis) (sym c.rank_of.ensures.number)
      ∙ sym c.axis_in.ensures ∙ e

module _ (c : Else-not-axis_in) where
  abbrev in5 : Start
  in5 = in4 (past4 (record { before = c.before.before; type_inv = record { s = c.shared_slice_known-1.given } }))

  held5 : axis_in (uses (st in5).operation) (length (A in5).axes) (st in5).axis ≡ true
  held5 = axis-told (record { before = c.before.before; type_inv = record { s = c.shared_slice_known-1.given } }) true (not-false _ c.if-not-axis_in.false-raw)

-- 7
module _ (c : After-types_fit) where
  abbrev past5 : Else-not-axis_in
  past5 = record { before = c.before.before; type_inv = record { s = c.shared_slice_known-1.given } }

  types-told : (b : Bool) → c.types_fit.result ≡ b → types_fit (st (in5 past5)).operation (st (in5 past5)) (A (in5 past5)).type (B (in5 past5)).type ≡ b
  types-told b e = sym c.types_fit.ensures ∙ e

-- 8
module _ (c : After-difference-d) where
  abbrev past7 : Else-not-types_fit
  past7 = record { before = c.before.before.before.before.before.before.before; type_inv = record { s = c.shared_slice_known-1.given } }

  abbrev in7 : After-types_fit
  in7 = record { before = c.before.before.before.before.before.before.before.before; type_inv = record { s = c.shared_slice_known-1.given } }

  differs-told : agree (st (in5 (past5 in7))).operation (st (in5 (past5 in7))).axis (A (in5 (past5 in7))).names
      (A (in5 (past5 in7))).axes (B (in5 (past5 in7))).names (B (in5 (past5 in7))).axes
      ≡ c.difference-d.result
  differs-told = sym c.difference-d.ensures

-- nothing differs
none-differs : (c : Else-d-ne0) → c.difference-d.result ≡ 0
none-differs c = omega (arith, c.if-d-ne0.false)

-- 6, where the tests before it held
module _ (c : After-fits_in) where
  abbrev in6 : After-types_fit
  in6 = in7 (record { before = c.before.before.before; type_inv = record { s = c.shared_slice_known-1.given } })

  abbrev its : Start
  its = in5 (past5 in6)

  fits_told : (b : Bool) → c.fits_in.result ≡ b
      → step_tests (z its) its.args.k.0 (st its) (A its) (B its) ≡ ensure b outside6 its.args.k.0
  unfolding step_tests
  fits_told b e =
      rw (
        held4 (past4 (record { before = c.before.before.before.before.before.before.before.before.before.before.before.before; type_inv = record { s = c.shared_slice_known-1.given } })),
        held5 (past5 in6),
        types-told in6 true (not-false _ (past7 (record { before = c.before.before.before; type_inv = record { s = c.shared_slice_known-1.given } })).if-not-types_fit.false-raw),
        differs-told (record { before = c.before.before.before; type_inv = record { s = c.shared_slice_known-1.given } }) ∙ none-differs (record { before = c.before.before; type_inv = record { s = c.shared_slice_known-1.given } }),
        sym c.fits_in.ensures ∙ e,
      )

pub unused_zero-requires : goal.unused_zero-requires
unused_zero-requires c = record { from_bound = (uses-by (goal.at.unused_zero-requires c).Start).few c.requires.detailed.few; holds = c.requires.detailed.holds }

pub returns-then-not-unused_zero : goal.returns-then-not-unused_zero
unfolding step_tests
returns-then-not-unused_zero c = rw (c.refuse.ensures, unused-told (goal.at.returns-then-not-unused_zero c).After-unused_zero false (not-true _ c.if-not-unused_zero.true-raw))

pub returns-then-not-axis_in : goal.returns-then-not-axis_in
unfolding step_tests
returns-then-not-axis_in c =
    let s = (goal.at.returns-then-not-axis_in c).After-axis_in in
    rw (c.refuse-then-not-axis_in.ensures, held4 (past4 s), axis-told s false (not-true _ c.if-not-axis_in.true-raw))

pub types_fit-requires : goal.types_fit-requires
types_fit-requires c = let p = in5 c in record { holds = p.requires.detailed.holds; b_value = sym (uses-by p).b }

pub returns-then-not-types_fit : goal.returns-then-not-types_fit
unfolding step_tests
returns-then-not-types_fit c =
    let s = (goal.at.returns-then-not-types_fit c).After-types_fit in
    rw (c.refuse-then-not-types_fit.ensures, held4 (past4 (goal.at.returns-then-not-types_fit c).After-axis_in), held5 (past5 s), types-told s false (not-true _ c.if-not-types_fit.true-raw))

pub difference-d-requires : goal.difference-d-requires
difference-d-requires c = held5 (goal.at.difference-d-requires c).Else-not-axis_in

pub returns-then-d-ne0 : goal.returns-then-d-ne0
unfolding step_tests
returns-then-d-ne0 c =
    let s = (goal.at.returns-then-d-ne0 c).After-difference-d in
    let x = in7 s in
    rw (
      c.refuse_at.ensures,
      held4 (past4 (goal.at.returns-then-d-ne0 c).After-axis_in),
      held5 (past5 x),
      types-told x true (not-false _ (past7 s).if-not-types_fit.false-raw),
      differs-told s,
      ne_eqb _ 0 c.if-d-ne0.true,
    )

pub returns-then-not-fits_in : goal.returns-then-not-fits_in
returns-then-not-fits_in c = rw (c.refuse-then-not-fits_in.ensures, fits_told (goal.at.returns-then-not-fits_in c).After-fits_in false (not-true _ c.if-not-fits_in.true-raw))

pub returns : goal.returns
returns c = rw (fits_told (goal.at.returns c).After-fits_in true (not-false _ c.if-not-fits_in.false-raw))
