-- `bundle::opened` meets its contract: each way out by the law of its test.
use Rattle.std.proofs.Common.{ℕ, true, List, ◌≡◌, sym, ◌∙◌, take}
use borrow.Author.Tests.{not-true, not-false}
use Rattle.paper.specs.declared.Sizes.{Sizes}
use Rattle.paper.specs.Limits.{sizes_of}
use Rattle.paper.specs.Numbers.{same}
use Rattle.paper.specs.Bundle.{mark, mark_bytes}
use Rattle.bundle.specs.Whole.{opened-short, opened-mark, opened-count, opened-good}
use Rattle.bundle.proofs.opened.Goals as goal
use Rattle.bundle.proofs.opened.Goals.{Else-not-is_marked, Start}

module _ (c : Start) where
  abbrev bs : List ℕ
  bs = c.args.s.now

  abbrev z : Sizes
  z = sizes_of c.args.v

-- the mark is there
module _ (c : Else-not-is_marked) where
  abbrev start : Start
  start = c.before.before.before.before.before

  marked : same (take mark_bytes (bs start)) (mark (z start)) ≡ true
  marked = sym c.is_marked.ensures ∙ not-false _ c.if-not-is_marked.false-raw

pub returns-then-s-lt-OPENING_BYTES : goal.returns-then-s-lt-OPENING_BYTES
returns-then-s-lt-OPENING_BYTES c =
    let p = (goal.at.returns-then-s-lt-OPENING_BYTES c).Start in
    opened-short (z p) (bs p) c.if-s-lt-OPENING_BYTES.true

pub returns-then-not-is_marked : goal.returns-then-not-is_marked
returns-then-not-is_marked c =
    let s = (goal.at.returns-then-not-is_marked c).Start in
    opened-mark (z s) (bs s) (sym c.is_marked.ensures ∙ not-true _ c.if-not-is_marked.true-raw)

pub returns-then-not-in_range : goal.returns-then-not-in_range
returns-then-not-in_range c =
    let p = (goal.at.returns-then-not-in_range c).Else-not-is_marked in
    let s = start p in
    opened-count (z s) (bs s) (marked p) _ c.byte_at-n.ensures (sym c.in_range.ensures ∙ not-true _ c.if-not-in_range.true-raw)

pub returns : goal.returns
returns c =
    let p = (goal.at.returns c).Else-not-is_marked in
    let s = start p in
    opened-good (z s) (bs s) (marked p) _ c.byte_at-n.ensures (sym c.in_range.ensures ∙ not-false _ c.if-not-in_range.false-raw)
    c.if-s-lt-OPENING_BYTES.false
