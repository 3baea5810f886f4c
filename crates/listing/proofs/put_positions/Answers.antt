-- `listing::put_positions` meets its contract: after i turns the first i positions are put.
use Rattle.std.proofs.Common.{ℕ, ◌+◌, ◌*◌, ◌≤◌, List, ◌≡◌, sym, ap, ◌∙◌, arith, rules, length, take, length-take-le, get_or-take, w32, of_z}
use lib.Seq.{paste}
use Rattle.paper.specs.Limits.{most_axes, limit_bytes}
use Rattle.paper.specs.Numbers.{position}
use Rattle.listing.specs.Rows.{positions_bytes, put-start, put-more, put-end}
use Rattle.listing.proofs.put_positions.Goals as goal
use Rattle.listing.proofs.put_positions.Goals.{After-put4, In-loop-i, Start}

module _ (c : Start) where
  abbrev d : List ℕ
  d = c.args.d.now

  abbrev p : List ℕ
  p = take c.args.n c.args.p.at

  long : length (take c.args.n c.args.p.at) ≡ c.args.n
  long =
      let l : length c.args.p.at ≡ most_axes = search rules in
      length-take-le c.args.n c.args.p.at (omega (arith, c.requires.0))

  fit : c.args.at + length (take c.args.n c.args.p.at) * limit_bytes ≤ length c.args.d.now
  fit = omega (arith, long, c.requires.1)

-- in a turn of the loop
module _ (c : In-loop-i) where
  abbrev s : Start
  s = c.before.before.before

-- its position is put
module _ (c : After-put4) where
  abbrev turn : In-loop-i
  turn = c.before.before.before.before

pub loop-i-init : goal.loop-i-init
loop-i-init c =
    let s = (goal.at.loop-i-init c).Start in
    put-start (p s) (d s) c.args.at (fit s)

pub overflow_mul-i : goal.overflow_mul-i
overflow_mul-i c = omega (arith, (s (goal.at.overflow_mul-i c).In-loop-i).requires.0)

pub overflow_add-at : goal.overflow_add-at
overflow_add-at c = let q = s (goal.at.overflow_add-at c).In-loop-i in omega (arith, long q, fit q)

pub bounds-p-i : goal.bounds-p-i
bounds-p-i c = omega (arith, (s (goal.at.bounds-p-i c).In-loop-i).requires.0)

pub put4-requires : goal.put4-requires
put4-requires c =
    let p = (goal.at.put4-requires c).In-loop-i in
    omega (arith, long (s p), fit (s p), c.loop-i.invariant.long)

pub loop-i-preserved : goal.loop-i-preserved
loop-i-preserved c =
    let t = turn (goal.at.loop-i-preserved c).After-put4 in
    let q = s t in
    let a = q.args in
    let v = t.loop-i in
    let f = get_or-take a.n a.p.at v.i 0 t.loop-i-test.true in
    let e = c.bits_of.ensures ∙ sym (ap (λ (x : ℕ). of_z w32 (position x)) f) in
    put-more (p q) (d q) a.at (fit q) v.d v.i v.invariant (omega (arith, long q)) _ e c.put4.new.d c.put4.ensures

pub shape_of-d : goal.shape_of-d
shape_of-d c = c.loop-i.invariant.long

pub returns : goal.returns
returns c =
    let s = (goal.at.returns c).Start in
    let v = c.loop-i in
    put-end (p s) (d s) c.args.at (fit s) v.d v.i v.invariant (omega (arith, long s))
    ∙ ap (λ (j : ℕ). paste (d s) c.args.at (positions_bytes (p s)) (j * limit_bytes)) (long s)
