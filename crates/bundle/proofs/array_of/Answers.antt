-- `bundle::array_of` meets its contract: each way out by the law of its test.
use Rattle.std.proofs.Common.{ℕ, List, arith}
use Rattle.paper.specs.declared.Form.{Form}
use Rattle.bundle.specs.Arrays.{of-extent, few-cells, of-short, of-bad, of-got}
use Rattle.bundle.proofs.array_of.Goals as goal
use Rattle.bundle.proofs.array_of.Goals.{Start}

module _ (c : Start) where
  abbrev bs : List ℕ
  bs = c.args.s.now

  abbrev k : ℕ
  k = c.args.k

  abbrev from : ℕ
  from = c.args.from

  abbrev form : Form
  form = c.args.form

pub returns-in_default : goal.returns-in_default
returns-in_default c =
    let p = (goal.at.returns-in_default c).Start in
    rw c.refuse.ensures (of-extent (k p) (bs p) (from p) (form p) c.in_default.ensures)

pub overflow_mul-n : goal.overflow_mul-n
overflow_mul-n c =
    let p = (goal.at.overflow_mul-n c).Start in
    omega (arith, few-cells (k p) (bs p) (from p) (form p) _ c.in-Some.ensures)

pub returns-then-s-from : goal.returns-then-s-from
returns-then-s-from c =
    let p = (goal.at.returns-then-s-from c).Start in
    rw c.refuse-then-s-from.ensures (of-short (k p) (bs p) (from p) (form p) _ c.in-Some.ensures c.if-s-from.true)

pub returns-then-bad-ne0 : goal.returns-then-bad-ne0
returns-then-bad-ne0 c =
    let p = (goal.at.returns-then-bad-ne0 c).Start in
    rw c.refuse_at.ensures
    (of-bad (k p) (bs p) (from p) (form p) _ c.in-Some.ensures c.if-s-from.false _ c.first_bad-bad.ensures.0 c.if-bad-ne0.true)

pub returns : goal.returns
returns c =
    let p = (goal.at.returns c).Start in
    of-got (k p) (bs p) (from p) (form p) _ c.in-Some.ensures c.if-s-from.false _ c.first_bad-bad.ensures.0 c.requires c.if-bad-ne0.false
