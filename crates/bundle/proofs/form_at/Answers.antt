-- `bundle::form_at` meets its contract: each way out by the law of its test.
use Rattle.std.specs.Prelude.{Option, Some, None}
use Rattle.std.proofs.Common.{ℕ, ◌+◌, ◌*◌, ◌≤◌, true, List, ◌≡◌, sym, subst, ◌∙◌, arith, length, drop}
use borrow.Author.Tests.{not-true, not-false}
use Rattle.paper.specs.declared.Sizes.{Sizes}
use Rattle.paper.specs.declared.Form.{Form}
use Rattle.paper.specs.Limits.{type_bytes, sizes_of}
use Rattle.paper.specs.Refusals.{between}
use Rattle.paper.specs.Cells.{is_type}
use Rattle.paper.specs.Bundle.{name_of, axis_of, maximum_of, each_axis}
use Rattle.paper.specs.Answers.{extent_of, names_of}
use Rattle.laws.specs.Sizes.{Fits, fits}
use Rattle.laws.specs.Tests.{between-true}
use Rattle.bundle.specs.Read.{FormRead}
use Rattle.bundle.specs.Axes.{axes-small}
use Rattle.bundle.specs.Arrays.{form_type, form-count, form-short, form-read}
use Rattle.bundle.proofs.form_at.Goals as goal
use Rattle.bundle.proofs.form_at.Goals.{After-byte_at-rank, Else-not-in_range-2, Start}

-- the version's sizes and the two bytes
module _ (c : After-byte_at-rank) where
  abbrev a : Start
  a = c.before.before.before.before.before

  abbrev bs : List ℕ
  bs = a.args.s.now

  abbrev at : ℕ
  at = a.args.at

  abbrev z : Sizes
  z = c.sizes-z.result

  abbrev kind : ℕ
  kind = c.byte_at-kind.result

  abbrev rank : ℕ
  rank = c.byte_at-rank.result

  same : z ≡ sizes_of a.args.v
  same = c.sizes-z.ensures

  its : Fits z
  its = subst Fits (sym same) (fits a.args.v)

  answers : (r : Option Form) → FormRead z bs at r → FormRead (sizes_of a.args.v) bs at r
  answers r h = subst (λ (x : Sizes). FormRead x bs at r) same h

-- both are in range
module _ (c : Else-not-in_range-2) where
  abbrev two : After-byte_at-rank
  two = record { before = c.before.before.before.before.before; type_inv = record { s = c.shared_slice_known-1.given } }

  typed : is_type (kind two) ≡ true
  typed = sym c.in_range.ensures ∙ not-false _ c.if-not-in_range.false-raw

  ranked : between 1 (z two).axes (rank two) ≡ true
  ranked = sym c.in_range-2.ensures ∙ not-false _ c.if-not-in_range-2.false-raw

  few : rank two ≤ (z two).axes
  few = (between-true (z two).axes (rank two) ranked).1

  small : rank two * (z two).axis ≤ 192
  small = axes-small (z two) (its two) (rank two) few

pub returns-then-not-in_range : goal.returns-then-not-in_range
returns-then-not-in_range c =
    let s = (goal.at.returns-then-not-in_range c).After-byte_at-rank in
    answers s None (form_type (z s) (its s) (bs s) (at s) (kind s) (rank s) c.byte_at-kind.ensures c.byte_at-rank.ensures
    (sym c.in_range.ensures ∙ not-true _ c.if-not-in_range.true-raw))

pub returns-then-not-in_range-2 : goal.returns-then-not-in_range-2
returns-then-not-in_range-2 c =
    let s = (goal.at.returns-then-not-in_range-2 c).After-byte_at-rank in
    answers s None (form-count (z s) (its s) (bs s) (at s) (kind s) (rank s) c.byte_at-kind.ensures c.byte_at-rank.ensures
    (sym c.in_range.ensures ∙ not-false _ c.if-not-in_range.false-raw)
    (sym c.in_range-2.ensures ∙ not-true _ c.if-not-in_range-2.true-raw))

pub returns-then-s-at : goal.returns-then-s-at
returns-then-s-at c =
    let w = (goal.at.returns-then-s-at c).Else-not-in_range-2 in
    let p = two w in
    answers p None (form-short (z p) (its p) (bs p) (at p) (kind p) (rank p) p.byte_at-kind.ensures p.byte_at-rank.ensures
    (typed w) (ranked w) c.if-s-at.true)

pub bounds_at-bounds-requires : goal.bounds_at-bounds-requires
bounds_at-bounds-requires c =
    let w = (goal.at.bounds_at-bounds-requires c).Else-not-in_range-2 in
    let p = two w in
    let room : at p + type_bytes + rank p * (z p).axis ≤ length (bs p) = omega (arith, c.if-s-at.false, (a p).requires) in (
      omega (arith, few w, (its p).axes),
      subst (λ (x : Sizes). at p + type_bytes + rank p * x.axis ≤ length (bs p)) (same p) room,
    )

pub returns : goal.returns
returns c =
    let w = (goal.at.returns c).Else-not-in_range-2 in
    let p = two w in
    let d = drop (at p + type_bytes) (bs p) in
    let m = c.bounds_at-bounds.result in
    let e = subst (λ (x : Sizes). (m.names ≡ names_of (each_axis x (name_of x) (rank p) d))
    × (m.extent ≡ extent_of (each_axis x (axis_of x) (rank p) d))
    × (m.maximum ≡ extent_of (each_axis x (maximum_of x) (rank p) d))) (sym (same p)) c.bounds_at-bounds.ensures in
    answers p (Some _) (form-read (z p) (its p) (bs p) (at p) (kind p) (rank p) p.byte_at-kind.ensures p.byte_at-rank.ensures
    (typed w) (ranked w) c.if-s-at.false _ _ _ e.0 e.1 e.2)

pub overflow_mul-rank : goal.overflow_mul-rank
overflow_mul-rank c = omega (arith, small (goal.at.overflow_mul-rank c).Else-not-in_range-2)

pub overflow_add-rank : goal.overflow_add-rank
overflow_add-rank c = omega (arith, small (goal.at.overflow_add-rank c).Else-not-in_range-2)
