-- `pack::judge::judged` meets its contract: the loop keeps what is known of the forms left equal to what is known of all.
use Rattle.std.proofs.lemmas.Result.{err_from_is_err_and}
use Rattle.std.proofs.Common.{ℕ, ◌+◌, ◌≤◌, ◌<◌, ◌≡◌, sym, ◌∙◌, List, ◌∷◌, arith, rules, get_or, take, drop}
use borrow.Author.Tests.{not-true, not-false}
use Rattle.paper.specs.declared.Form.{Form}
use Rattle.paper.specs.Limits.{most_arrays}
use Rattle.laws.specs.Loops.{length-mapped}
use Rattle.laws.specs.Sizes.{fits}
use Rattle.laws.specs.Tests.{between-true}
use Rattle.pack.specs.Judging.{judging-start, judging-more, Counted, count-first, next-form, all-count, all-bad, all_left, all-got}
use Rattle.pack.proofs.judge.judged.Goals as goal
use Rattle.pack.proofs.judge.judged.Goals.{Else-not-in_range, In-loop-i}

-- the count is good
module _ (c : Else-not-in_range) where
  abbrev count : ℕ
  count = c.args.count

  abbrev forms : List Form
  forms = c.args.forms

  counted : Counted count forms
  counted = record { range = sym c.in_range.ensures ∙ not-false _ c.if-not-in_range.false-raw; full = search (rules, length-mapped) }

  few : count ≤ most_arrays
  few = (between-true most_arrays count counted.range).1

  -- the form that the loop is at
  next : (i : ℕ) (f : Form) → i < count → drop i (take count forms) ≡ get_or forms i f ∷ drop (i + 1) (take count forms)
  next = next-form (fits c.args.v) count forms counted

pub returns-then-not-in_range : goal.returns-then-not-in_range
returns-then-not-in_range c =
    rw c.refuse.ensures
    (all-count (fits c.args.v) c.args.count c.args.forms c.args.cells.now (sym c.in_range.ensures ∙ not-true _ c.if-not-in_range.true-raw))

pub returns-in_err-one : goal.returns-in_err-one
returns-in_err-one c =
    let s = (goal.at.returns-in_err-one c).Else-not-in_range in
    let p = err_from_is_err_and c.from_residual.result c.from_residual.ensures.1 in
    rw (p.1, p.2)
    (all-bad (fits c.args.v) (count s) (forms s) (counted s) c.loop-i.invariant (next s c.loop-i.i _ c.loop-i-test.true) c.in_err-one.ensures)

pub overflow_add-long : goal.overflow_add-long
overflow_add-long c =
    let s = (goal.at.overflow_add-long c).Else-not-in_range in
    omega (arith, few s, c.loop-i.invariant.few, c.in_ok-one.ensures.few)

pub loop-i-preserved : goal.loop-i-preserved
loop-i-preserved c =
    let s = (goal.at.loop-i-preserved c).Else-not-in_range in
    judging-more (fits c.args.v) c.loop-i.invariant (next s c.loop-i.i _ c.loop-i-test.true) c.in_ok-one.ensures
    (omega (arith, count-first (fits c.args.v) (count s) (forms s) (counted s)))

pub returns-then-at-cells : goal.returns-then-at-cells
returns-then-at-cells c =
    let s = (goal.at.returns-then-at-cells c).Else-not-in_range in
    rw c.refuse-then-at-cells.ensures
    (all_left (fits c.args.v) (count s) (forms s) (counted s) c.loop-i.invariant c.loop-i-test.false c.if-at-cells.true)

pub returns : goal.returns
returns c =
    let s = (goal.at.returns c).Else-not-in_range in
    all-got (fits c.args.v) (count s) (forms s) (counted s) c.loop-i.invariant c.loop-i-test.false c.if-at-cells.false

pub loop-i-init : goal.loop-i-init
loop-i-init c = judging-start _ _ _

pub overflow_cast-i : goal.overflow_cast-i
overflow_cast-i c = omega (arith, few (goal.at.overflow_cast-i c).Else-not-in_range)

pub offset_bounds-forms-i : goal.offset_bounds-forms-i
offset_bounds-forms-i c = omega (arith, few (goal.at.offset_bounds-forms-i c).Else-not-in_range)

pub bounds-forms-i : goal.bounds-forms-i
bounds-forms-i c = omega (arith, few (goal.at.bounds-forms-i c).Else-not-in_range)

pub form_judged-requires : goal.form_judged-requires
form_judged-requires c = c.loop-i.invariant.room
