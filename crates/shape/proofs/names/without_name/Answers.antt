-- `shape::names::without_name` meets its contract.
-- The loop has kept the names passed, without the one.
use Rattle.std.proofs.Common.{List, ◌≡◌, arith, rules, length, get_or, take, get_or-take, length-take-le}
use Rattle.laws.specs.Loops.{length-mapped}
use Rattle.paper.specs.declared.Name.{Name}
use Rattle.paper.specs.Limits.{most_axes}
use Rattle.paper.specs.Axes.{no_name}
use Rattle.shape.specs.Names.{kept-start, kept_more, kept-same, kept-all}
use Rattle.shape.proofs.names.without_name.Goals as goal
use Rattle.shape.proofs.names.without_name.Goals.{Start, then-i-out, else-i-out}

module _ (c : Start) where
  full : length c.args.names ≡ most_axes
  full = search (rules, length-mapped)

  abbrev N : List Name
  N = take c.args.rank c.args.names

  many : length N ≡ c.args.rank
  many = length-take-le c.args.rank c.args.names (omega (arith, full, c.requires))

pub loop-i-init : goal.loop-i-init
loop-i-init c = let s = (goal.at.loop-i-init c).Start in kept-start s.args.k.0 (N s) s.args.names (full s)

pub bounds-new-j : goal.bounds-new-j
bounds-new-j c =
    let l = c.loop-i in
    omega (arith, l.invariant.few, c.loop-i-test.true, c.requires)

pub loop-i-preserved : goal.loop-i-preserved
loop-i-preserved c =
    let s = (goal.at.loop-i-preserved c).Start in
    let l = c.loop-i in
    let t = c.loop-i-test.true in
    let e : get_or (N s) l.i no_name ≡ get_or s.args.names l.i no_name = get_or-take s.args.rank s.args.names l.i no_name t in
    elim c.if-i-out.branch [
      | then-i-out w ↦ rw (w.j-is, ← e) (kept_more s.args.k.0 (N s) l.i l.j l.new l.invariant (omega (arith, many s)) (omega (arith, many s, s.requires)) w.if-i-out.true)
      | else-i-out w ↦ rw (w.j-is, ← e) (kept-same s.args.k.0 (N s) l.i l.j l.new l.invariant (omega (arith, many s)) (omega (arith, many s, s.requires)) (omega (arith, w.if-i-out.false)))
    ]

pub returns : goal.returns
returns c =
    let s = (goal.at.returns c).Start in
    let l = c.loop-i in
    kept-all s.args.k.0 (N s) l.i l.j l.new l.invariant (omega (arith, many s, c.loop-i-test.false))
    (omega (arith, many s, s.requires)) (omega (arith, s.requires))
