-- `pack::judge::form_judged` meets its contract: a law for each way out.
use Rattle.std.proofs.lemmas.Result.{err_from_is_err_and}
use Rattle.std.proofs.Common.{ℕ, List, ◌*◌, ◌≤◌, ◌≡◌, sym, ap, ◌∙◌, Bool, true, arith, rules, length, take}
use borrow.Author.Tests.{not-true, not-false}
use Rattle.paper.specs.declared.Sizes.{Sizes}
use Rattle.paper.specs.declared.Form.{Form}
use Rattle.paper.specs.Limits.{most_axes, sizes_of}
use Rattle.paper.specs.Refusals.{between}
use Rattle.paper.specs.Cells.{is_type}
use Rattle.paper.specs.Bundle.{names_fit}
use Rattle.laws.specs.Loops.{length-mapped}
use Rattle.laws.specs.Sizes.{Fits, fits}
use Rattle.laws.specs.Tests.{between-true}
use Rattle.bundle.specs.Axes.{axes-small}
use Rattle.pack.specs.Judging.{form_type, form-count, form-long, form-bad, form-got}
use Rattle.pack.proofs.judge.form_judged.Goals as goal
use Rattle.pack.proofs.judge.form_judged.Goals.{After-rank_of-rank, Else-not-in_range, Else-not-in_range-2, Else-not-names_fit}

-- the version's sizes, and the axes counted
module _ (c : After-rank_of-rank) where
  abbrev bs : List ℕ
  bs = c.args.cells.now

  abbrev from : ℕ
  from = c.args.from

  abbrev k : ℕ
  k = c.args.k

  abbrev form : Form
  form = c.args.form

  abbrev z : Sizes
  z = sizes_of c.args.v

  abbrev n : ℕ
  n = c.rank_of-rank.result

  its : Fits z
  its = fits c.args.v

  full : length form.names ≡ most_axes
  full = search (rules, length-mapped)

  -- the axis count is in range, or not, in the version's sizes
  range : {b : Bool} → between 1 c.sizes-z.result.axes n ≡ b → between 1 z.axes n ≡ b
  range e = ap (λ (x : Sizes). between 1 x.axes n) (sym c.sizes-z.ensures) ∙ e

-- the type is one
typed : (c : Else-not-in_range) → is_type c.args.form.kind ≡ true
typed c = sym c.in_range.ensures ∙ not-false _ c.if-not-in_range.false-raw

-- and the axis count
module _ (c : Else-not-in_range-2) where
  ranked : between 1 c.sizes-z.result.axes c.rank_of-rank.result ≡ true
  ranked = sym c.in_range-2.ensures ∙ not-false _ c.if-not-in_range-2.false-raw

  small : c.rank_of-rank.result * c.sizes-z.result.axis ≤ 192
  small =
      rw c.sizes-z.ensures
      (axes-small (sizes_of c.args.v) (fits c.args.v) c.rank_of-rank.result
      (between-true (sizes_of c.args.v).axes c.rank_of-rank.result (ap (λ (x : Sizes). between 1 x.axes c.rank_of-rank.result) (sym c.sizes-z.ensures) ∙ ranked)).1)

-- and the names
named : (c : Else-not-names_fit) → names_fit (sizes_of c.args.v) (take c.rank_of-rank.result c.args.form.names) ≡ true
named c = sym c.names_fit.ensures ∙ not-false _ c.if-not-names_fit.false-raw

pub returns-then-not-in_range : goal.returns-then-not-in_range
returns-then-not-in_range c =
    let s = (goal.at.returns-then-not-in_range c).After-rank_of-rank in
    rw c.refuse.ensures
    (form_type (its s) (bs s) (from s) (k s) (form s) (sym c.in_range.ensures ∙ not-true _ c.if-not-in_range.true-raw))

pub returns-then-not-in_range-2 : goal.returns-then-not-in_range-2
returns-then-not-in_range-2 c =
    let s = (goal.at.returns-then-not-in_range-2 c).After-rank_of-rank in
    let t = (goal.at.returns-then-not-in_range-2 c).Else-not-in_range in
    rw c.refuse-then-not-in_range-2.ensures
    (form-count (its s) (bs s) (from s) (k s) (form s) (typed t) s.rank_of-rank.ensures
    (range s (sym c.in_range-2.ensures ∙ not-true _ c.if-not-in_range-2.true-raw)))

pub returns-then-not-names_fit : goal.returns-then-not-names_fit
returns-then-not-names_fit c =
    let s = (goal.at.returns-then-not-names_fit c).After-rank_of-rank in
    let t = (goal.at.returns-then-not-names_fit c).Else-not-in_range in
    let u = (goal.at.returns-then-not-names_fit c).Else-not-in_range-2 in
    rw c.refuse-then-not-names_fit.ensures
    (form-long (its s) (bs s) (from s) (k s) (form s) (typed t) s.rank_of-rank.ensures (range s (ranked u))
    (sym c.names_fit.ensures ∙ not-true _ c.if-not-names_fit.true-raw))

pub returns-in_err-n : goal.returns-in_err-n
returns-in_err-n c =
    let s = (goal.at.returns-in_err-n c).After-rank_of-rank in
    let t = (goal.at.returns-in_err-n c).Else-not-in_range in
    let u = (goal.at.returns-in_err-n c).Else-not-in_range-2 in
    let w = (goal.at.returns-in_err-n c).Else-not-names_fit in
    let p = err_from_is_err_and c.from_residual.result c.from_residual.ensures.1 in
    rw (p.1, p.2)
    (form-bad (its s) (bs s) (from s) (k s) (form s) (typed t) s.rank_of-rank.ensures (range s (ranked u)) (named w)
    c.in_err-n.ensures)

pub returns : goal.returns
returns c =
    let s = (goal.at.returns c).After-rank_of-rank in
    let t = (goal.at.returns c).Else-not-in_range in
    let u = (goal.at.returns c).Else-not-in_range-2 in
    let w = (goal.at.returns c).Else-not-names_fit in
    rw c.sizes-z.ensures
    (form-got (its s) (bs s) (from s) (k s) (form s) (typed t) s.rank_of-rank.ensures (range s (ranked u)) (named w) (full s)
    c.in_ok-n.ensures)

pub names_fit-requires : goal.names_fit-requires
names_fit-requires c = c.rank_of-rank.ensures.few

pub overflow_mul-result : goal.overflow_mul-result
overflow_mul-result c = omega (arith, small (goal.at.overflow_mul-result c).Else-not-in_range-2)

pub overflow_add-result-2 : goal.overflow_add-result-2
overflow_add-result-2 c = omega (arith, small (goal.at.overflow_add-result-2 c).Else-not-in_range-2)

pub overflow_add-result-3 : goal.overflow_add-result-3
overflow_add-result-3 c = omega (arith, small (goal.at.overflow_add-result-3 c).Else-not-in_range-2, c.in_ok-n.ensures.1.few)
