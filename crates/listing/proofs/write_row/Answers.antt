-- `listing::write_row` meets its contract: the ordinality put, and the positions after it, are the row.
use Rattle.std.proofs.Common.{ℕ, ◌+◌, ◌*◌, List, [], ◌∷◌, ◌++◌, ◌≡◌, sym, ap, ap₂, ◌∙◌, arith, rules, length, take, length-take-le}
use lib.Seq.{paste}
use Rattle.paper.specs.Limits.{most_axes, limit_bytes}
use Rattle.listing.specs.Lines.{with-last, with_none}
use Rattle.listing.specs.Rows.{row_of, row_put, row_last}
use Rattle.listing.proofs.write_row.Goals as goal
use Rattle.listing.proofs.write_row.Goals.{After-last_axis-axis, After-put4, After-put4-2, After-put_positions, Else-rank-axis, Start}

-- the ordinality is put
module _ (c : After-put4) where
  abbrev start : Start
  start = c.before.before.before

-- and the positions before the last axis
module _ (c : After-put_positions) where
  abbrev last : After-last_axis-axis
  last = record { before = c.before.before; type_inv = record { rows = c.slice_known-2-1.given } }

  abbrev axis : ℕ
  axis = last.last_axis-axis.result

  abbrev o : After-put4
  o = c.before.before.before.before.before

  abbrev p : List ℕ
  p = (start o).args.p.at

  long : axis ≡ length (take axis p)
  long =
      let l : length p ≡ most_axes = search rules in
      sym (length-take-le axis p (omega (arith, last.last_axis-axis.ensures, (start o).requires.0)))

pub returns-then-rank-axis : goal.returns-then-rank-axis
returns-then-rank-axis c =
    let w = (goal.at.returns-then-rank-axis c).After-put_positions in
    let s = start (o w) in
    let a = s.args in
    let m = (last w).last_axis-axis.ensures in
    let z : axis w ≡ 0 = omega (arith, c.if-rank-axis.true) in
    let n : a.rank ≡ 0 = omega (arith, c.if-rank-axis.true) in
    let l : limit_bytes + axis w * limit_bytes ≡ limit_bytes + limit_bytes * a.rank = omega arith in
    let e = ap (λ (j : ℕ). take j (p w)) z ∙ sym (with_none a.rank (p w) a.x n) in
    row_put a.rows.now a.at a.o.0 _ (o w).put4.ensures (omega (arith, s.requires.1)) (take (axis w) (p w)) (axis w) (long w)
    _ c.put_positions.ensures
    ∙ ap₂ (λ (u : List ℕ) (j : ℕ). paste a.rows.now a.at (row_of a.o.0 u) j) e l

-- the last axis's position is put
module _ (c : After-put4-2) where
  abbrev more : Else-rank-axis
  more = record { before = c.before.before.before; type_inv = record { rows = c.slice_known-3-1.given } }

  abbrev front : After-put_positions
  front = c.before.before.before.before.before.before

pub returns : goal.returns
returns c =
    let w = (goal.at.returns c).After-put4-2 in
    let v = front w in
    let s = start (o v) in
    let a = s.args in
    let m = (last v).last_axis-axis.ensures in
    let g = (more w).if-rank-axis.false in
    let l : limit_bytes + axis v * limit_bytes + limit_bytes ≡ limit_bytes + limit_bytes * a.rank = omega arith in
    let e = ap (λ (j : ℕ). take j (p v) ++ (a.x ∷ [])) m ∙ sym (with-last a.rank (p v) a.x (omega arith)) in
    row_last a.rows.now a.at a.o.0 _ (o v).put4.ensures (omega (arith, s.requires.1)) (take (axis v) (p v)) (axis v) (long v)
    _ v.put_positions.ensures a.x _ c.bits_of.ensures c.put4-2.new.d c.put4-2.ensures
    ∙ ap₂ (λ (u : List ℕ) (j : ℕ). paste a.rows.now a.at (row_of a.o.0 u) j) e l
