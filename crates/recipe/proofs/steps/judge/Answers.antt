-- `recipe::steps::judge` meets its contract: the operands, the tests, the result.
use Rattle.std.proofs.lemmas.Result.{err_from_is_err_and}
use Rattle.std.proofs.Common.{◌≡◌, sym, ap, subst, ◌∙◌, Bool, true, length, if◌then◌else◌}
use borrow.Author.Tests.{not-true, not-false}
use Rattle.paper.specs.Recipe.{step_tests}
use Rattle.paper.specs.Answers.{axes_of}
use Rattle.step.specs.Steps.{step_in}
use Rattle.paper.specs.declared.Sizes.{Sizes}
use Rattle.paper.specs.Limits.{sizes_of}
use Rattle.laws.specs.Sizes.{fits}
use Rattle.step.specs.Using.{used_by, Column, column}
use Rattle.recipe.specs.declared.Operand.{Operand}
use Rattle.recipe.specs.Operands.{no_operand, shape_in}
use Rattle.recipe.specs.Stepped.{Finishing, Finished, second_of, no-a, no-b, test-failed, finishing, tests-held}
use Rattle.recipe.proofs.steps.judge.Goals as goal
use Rattle.recipe.proofs.steps.judge.Goals.{After-used_b-second, After-used_by-used, Else-not-second, Start}

-- what is found for B
module _ (c : After-used_b-second) where
  abbrev start : Start
  start = c.before.before.before.before.before.before

  abbrev z : Sizes
  z = sizes_of start.args.step.version

  uses-told : c.used_by-used.result ≡ used_by start.args.step.operation z.name (length (axes_of start.args.a.head.form.extent))
  uses-told = c.used_by-used.ensures ∙ ap (used_by start.args.step.operation z.name) c.rank_of.ensures.number

  column-of : Column start.args.step.operation z (length (axes_of start.args.a.head.form.extent)) c.used_by-used.result
  column-of =
      let op = start.args.step.operation in
      let n = length (axes_of start.args.a.head.form.extent) in
      subst (Column op z n) (sym uses-told) (column op z n (fits start.args.step.version))

  second : c.used_b-second.result ≡ second_of start.args.step start.args.b
  second = c.used_b-second.ensures ∙ ap (λ (t : Bool). if t then start.args.b else no_operand true) (sym column-of.b)

pub returns-then-not-a : goal.returns-then-not-a
returns-then-not-a c =
    let p = (start (goal.at.returns-then-not-a c).After-used_b-second).args in
    rw c.refuse.ensures (no-a p.s.now p.step p.a p.b p.at p.k.0 (not-true _ c.if-not-a.true))

-- both are found
module _ (c : Else-not-second) where
  abbrev its : After-used_b-second
  its = record { before = c.before.before.before.before.before; type_inv = record { s = c.shared_slice_known-1.given } }

  found-a : (start its).args.a.found ≡ true
  found-a = not-false _ c.if-not-a.false

  found-b : (second_of (start its).args.step (start its).args.b).found ≡ true
  found-b = ap (λ (o : Operand). o.found) (sym (second its)) ∙ not-false _ c.if-not-second.false

  -- what the paper's tests of B say is said of what was found for it
  tests-of-b : step_tests (z its) (start its).args.k.0 (step_in (start its).args.s.now (start its).args.step)
      (shape_in (start its).args.a.head) (shape_in c.used_b-second.result.head)
      ≡ step_tests (z its) (start its).args.k.0 (step_in (start its).args.s.now (start its).args.step)
      (shape_in (start its).args.a.head) (shape_in (second_of (start its).args.step (start its).args.b).head)
  tests-of-b =
      ap (λ (o : Operand). step_tests (z its) (start its).args.k.0 (step_in (start its).args.s.now (start its).args.step)
      (shape_in (start its).args.a.head) (shape_in o.head)) (second its)

pub returns-then-not-second : goal.returns-then-not-second
returns-then-not-second c =
    let s = (goal.at.returns-then-not-second c).After-used_b-second in
    let p = (start s).args in
    rw c.refuse-then-not-second.ensures
    (no-b p.s.now p.step p.a p.b p.at p.k.0 (not-false _ c.if-not-a.false)
    (ap (λ (o : Operand). o.found) (sym (second s)) ∙ not-true _ c.if-not-second.true))

pub step_tests-requires : goal.step_tests-requires
step_tests-requires c =
    let x = its (goal.at.step_tests-requires c).Else-not-second in
    record { small = (start x).requires.fitting.small; detailed = record { holds = (start x).requires.holds; few = (start x).requires.fitting.few }; used_value = uses-told x }

pub returns-in_err-step_tests : goal.returns-in_err-step_tests
returns-in_err-step_tests c =
    let w = (goal.at.returns-in_err-step_tests c).Else-not-second in
    let p = (start (its w)).args in
    let r = err_from_is_err_and c.from_residual.result c.from_residual.ensures.1 in
    rw (r.1, r.2)
    (test-failed p.s.now p.step p.a p.b p.at p.k.0 (found-a w) (found-b w) (c.in_err-step_tests.ensures ∙ tests-of-b w))

pub finish-requires : goal.finish-requires
finish-requires c =
    let w = (goal.at.finish-requires c).Else-not-second in
    let v = start (its w) in
    let p = v.args in
    subst (λ (o : Operand). Finishing p.s.now p.step p.a.head.form o.head.form) (sym (second (its w)))
    (finishing p.s.now p.step p.a p.b p.k.0 (c.in_ok-step_tests.ensures ∙ tests-of-b w) v.requires.fitting v.requires.fitting_2 v.requires.holds)

pub returns : goal.returns
returns c =
    let w = (goal.at.returns c).Else-not-second in
    let p = (start (its w)).args in
    tests-held p.s.now p.step p.a p.b p.at p.k.0 (found-a w) (found-b w) (c.in_ok-step_tests.ensures ∙ tests-of-b w) c.finish.result
    (subst (λ (o : Operand). Finished p.s.now p.step p.a.head.form o.head.form p.at p.k.0 c.finish.result) (second (its w)) c.finish.ensures)
