-- `listing::list` meets its contract: the rows of the TRUE cells passed stand in the buffer, and the loop goes on or ends with those left.
-- A row's coordinate is one of the line that the loop is on.
use Rattle.std.proofs.Common.{ℕ, ◌+◌, ◌-◌, ◌*◌, ◌/◌, ◌≤◌, ◌<◌, List, ◌≡◌, ap, ap₂, ◌∙◌, arith, length, take}
use Rattle.std.proofs.Math.Seq.{paste}
use Rattle.paper.specs.declared.Axis.{Axis}
use Rattle.paper.specs.Answers.{axes_of}
use Rattle.paper.specs.Axes.{coordinate}
use Rattle.paper.specs.Limits.{most_cells, limit_bytes}
use Rattle.paper.specs.Listing.{row_bytes, row}
use Rattle.place.specs.declared.Coordinate.{Coordinate}
use Rattle.listing.specs.Rows.{nameless, row_of, row_size, row_at}
use Rattle.listing.specs.Lines.{with_last, Below, Left, InLine, OnLine, line-none, line-still, line-more, line-below, line-found}
use Rattle.listing.specs.Lists.{Met, list-start, list-upto, list-more, wrote, skipped, listed-as, full, passed}
use Rattle.listing.proofs.list.Goals as goal
use Rattle.listing.proofs.list.Goals.{At-loop-k, then-end-k, else-end-k, then-is_true, else-is_true, then-loop-k-test+else-written-room, else-loop-k-test}

-- a row's bytes, where the axes are counted
sized : (E : List Axis) (r : ℕ) → r ≡ length E → limit_bytes + limit_bytes * r ≡ row_bytes (nameless E)
sized E r e = ap (λ (j : ℕ). limit_bytes + limit_bytes * j) e

-- a turn of the loop, at cell k
module _ (c : At-loop-k) where
  abbrev E : List Axis
  E = axes_of c.args.e

  abbrev rank : ℕ
  rank = c.rank_of-rank.result

  abbrev size : ℕ
  size = limit_bytes + limit_bytes * rank

  abbrev top : ℕ
  top = c.line_top-top.result

  abbrev k : ℕ
  k = c.loop-k.k

  long : size ≡ row_bytes (nameless E)
  long = sized E rank c.rank_of-rank.ensures.number

  upto : k ≤ c.args.n
  upto = list-upto c.args.work.now c.args.at c.args.n E (c.args.start.0 - 1) size c.args.rows.now long c.loop-k.invariant.0

  -- the cells are few
  few : k ≤ most_cells
  few = omega (arith, upto, c.requires.number, c.requires.small.few)

  -- the line of cell k: found anew, by the coordinate of the cell
  module _ (h : k < c.args.n) (p : Coordinate) (e : take (length E) p.at ≡ coordinate E (k + 1)) where
    found : take rank p.at ≡ coordinate E (k + 1)
    found = ap (λ (j : ℕ). take j p.at) c.rank_of-rank.ensures.number ∙ e

    below : Below p.at rank top
    below =
        line-below E rank top c.rank_of-rank.ensures.number c.line_top-top.ensures p.at k (omega (arith, c.requires.number)) found
        c.rank_of-rank.ensures.few

    anew : (n : ℕ) → Left p.at rank top n → (q : Coordinate) (z : ℕ) → q ≡ p → z ≡ k + n → OnLine E rank top q.at z k
    anew n l q z f g =
        line-found E rank top c.rank_of-rank.ensures.number c.line_top-top.ensures p.at k (omega (arith, c.requires.number)) found n l q.at z
        (ap (λ (p : Coordinate). p.at) f) g

  -- or the one before
  module _ (q : Coordinate) (z : ℕ) (f : q ≡ c.loop-k.p) (g : z ≡ c.loop-k.end) where
    still : k < c.loop-k.end → OnLine E rank top q.at z k
    still h = line-still E rank top c.loop-k.p.at c.loop-k.end k c.loop-k.invariant.1 q.at z (ap (λ (p : Coordinate). p.at) f) g h

    past : InLine E rank top q.at z (k + 1)
    past = line-more E rank top c.loop-k.p.at c.loop-k.end k c.loop-k.invariant.1 q.at z (ap (λ (p : Coordinate). p.at) f) g

  -- the cell k is on a line
  module _ (p : Coordinate) (end : ℕ) (o : OnLine E rank top p.at end k) where
    next : (q : Coordinate) (z : ℕ) → q ≡ p → z ≡ end → InLine E rank top q.at z (k + 1)
    next q z f g = line-more E rank top p.at end k o.1 q.at z (ap (λ (p : Coordinate). p.at) f) g

    -- its row was put
    put : (y : List ℕ) (i : ℕ) → y ≡ paste c.loop-k.rows i (row_of (k + 1) (with_last rank p.at (top - (end - k)))) (row_size rank)
        → y ≡ paste c.loop-k.rows i (row (nameless E) (k + 1)) (row_bytes (nameless E))
    put y i e =
        e ∙ ap₂ (λ (u : List ℕ) (m : ℕ). paste c.loop-k.rows i u m) (row_at E (k + 1) _ (o.1 k (omega arith) o.0).1) long

pub loop-k-init : goal.loop-k-init
loop-k-init c =
    let X = axes_of c.args.e in
    let r = c.rank_of-rank.result in
    let e = sized X r c.rank_of-rank.ensures.number in (
      list-start c.args.work.now c.args.at c.args.n X (c.args.start.0 - 1) (limit_bytes + limit_bytes * r) c.args.rows.now e
          (omega (arith, c.requires.number, c.requires.upto)) (omega (arith, e, c.requires.room)),
      line-none X r c.line_top-top.result _ (c.args.start.0 - 1),
    )

pub left_on-requires : goal.left_on-requires
left_on-requires c = below (goal.at.left_on-requires c).At-loop-k c.loop-k-test.true c.coordinate_of-p.result c.coordinate_of-p.ensures

pub loop-k-preserved : goal.loop-k-preserved
loop-k-preserved c =
    let t = (goal.at.loop-k-preserved c).At-loop-k in
    let v = c.loop-k in
    let q = c.if-is_true.p in
    let z = c.if-is_true.end in
    let m : Met (E t) (size t) v.rows v.k v.written c.is_true.result c.if-is_true.rows c.if-is_true.written
    × InLine (E t) (rank t) (top t) q.at z (v.k + 1) =
    elim c.if-is_true.branch [
      | then-is_true w ↦
          let p = w.if-end-k.p in
          let end = w.if-end-k.end in
          let o : OnLine (E t) (rank t) (top t) p.at end v.k =
          elim w.if-end-k.branch [
            | then-end-k x ↦
                anew t c.loop-k-test.true x.coordinate_of-p.result x.coordinate_of-p.ensures x.left_on.result x.left_on.ensures p end x.p-is
                x.end-is
            | else-end-k x ↦ still t p end x.p-is x.end-is x.if-end-k.false
          ] in (
            wrote w.if-is_true.true (w.rows-is ∙ put t p end o _ (v.written * size t) w.write_row.ensures) w.written-is,
            next t p end o q z w.p-is w.end-is,
          )
      | else-is_true w ↦ (skipped w.if-is_true.false w.rows-is w.written-is, past t q z w.p-is w.end-is)
    ] in (
      list-more c.args.work.now c.args.at c.args.n (E t) (c.args.start.0 - 1) (size t) c.args.rows.now (long t) v.invariant.0
          c.loop-k-test.true c.if-written-room.true c.is_true.ensures m.0,
      m.1,
    )

pub overflow_cast-result : goal.overflow_cast-result
overflow_cast-result c = omega (arith, few (goal.at.overflow_cast-result c).At-loop-k, c.loop-k.invariant.0.fewer)

pub overflow_cast-result-2 : goal.overflow_cast-result-2
overflow_cast-result-2 c = omega (arith, few (goal.at.overflow_cast-result-2 c).At-loop-k)

pub overflow_add-result : goal.overflow_add-result
overflow_add-result c = omega (arith, few (goal.at.overflow_add-result c).At-loop-k)

pub returns : goal.returns
returns c =
    let t = (goal.at.returns c).At-loop-k in
    listed-as c.args.work.now c.args.at c.args.n c.args.start.0 (E t) c.args.rows.now c.requires.number c.requires.from
    (ap (λ (j : ℕ). length c.args.rows.now / j) (long t)) c.loop-k.invariant.0
    (elim c.loop-k-test.branch [
      | then-loop-k-test+else-written-room w ↦ full w.if-written-room.false
      | else-loop-k-test w ↦ passed w.loop-k-test.false
    ])
