-- `decimal::put_decimal` meets its contract: at most four digits; or those before the last four, eight, twelve or sixteen, and the last.
use Rattle.std.proofs.Common.{ℕ, ◌/◌, ◌≡◌, ap, ◌++◌, arith, length, length-append}
use Rattle.paper.specs.Rests.{digits}
use Rattle.decimal.specs.Wrote.{wrote-both, wrote-three}
use Rattle.decimal.specs.Pairs.{four, eight, digits-fours, digits-eights, digits-twelves, digits-sixteens}
use Rattle.decimal.proofs.put_decimal.Goals as goal
use Rattle.decimal.proofs.put_decimal.Goals.{Else-n-lt10000, Else-n-lt100000000, Else-n-lt1000000000000, Else-n-lt10000000000000000, Start}

-- five digits or more
module _ (c : Else-n-lt10000) where
  abbrev start : Start
  start = c.before.before.before

  abbrev n : ℕ
  n = start.args.n

  fours : digits 19 n ≡ digits 19 (n / 10000) ++ four n
  fours = digits-fours n c.if-n-lt10000.false (omega arith)

-- nine or more
module _ (c : Else-n-lt100000000) where
  abbrev m : ℕ
  m = n (record { before = c.before.before; type_inv = record { out = c.slice_known-1.given } })

  eights : digits 19 m ≡ digits 19 (m / 100000000) ++ eight m
  eights = digits-eights m c.if-n-lt100000000.false (omega arith)

-- thirteen or more
module _ (c : Else-n-lt1000000000000) where
  abbrev k : ℕ
  k = m (record { before = c.before.before; type_inv = record { out = c.slice_known-1.given } })

  twelves : digits 19 k ≡ digits 19 (k / 1000000000000) ++ four (k / 100000000) ++ eight k
  twelves = digits-twelves k c.if-n-lt1000000000000.false (omega arith)

-- seventeen or more
module _ (c : Else-n-lt10000000000000000) where
  abbrev l : ℕ
  l = k (record { before = c.before.before; type_inv = record { out = c.slice_known-1.given } })

  sixteens : digits 19 l ≡ digits 19 (l / 10000000000000000) ++ eight (l / 100000000) ++ eight l
  sixteens = digits-sixteens l c.if-n-lt10000000000000000.false (omega arith)

-- ---- up to eight digits

pub put_four-requires : goal.put_four-requires
put_four-requires c =
    omega (arith, simp length-append at (ap length (fours (goal.at.put_four-requires c).Else-n-lt10000)), c.put_short-from.ensures.0)

pub returns-then-n-lt100000000 : goal.returns-then-n-lt100000000
returns-then-n-lt100000000 c =
    let s = (goal.at.returns-then-n-lt100000000 c).Else-n-lt10000 in
    wrote-both _ _ (digits 19 (n s / 10000)) (four (n s)) _ (fours s) (start s).requires c.put_short-from.ensures c.put_four.ensures

-- ---- up to twelve

pub put_eight-requires : goal.put_eight-requires
put_eight-requires c =
    omega (arith, simp length-append at (ap length (eights (goal.at.put_eight-requires c).Else-n-lt100000000)), c.put_short-from-then-n-lt1000000000000.ensures.0)

pub returns-then-n-lt1000000000000 : goal.returns-then-n-lt1000000000000
returns-then-n-lt1000000000000 c =
    let s = (goal.at.returns-then-n-lt1000000000000 c).Else-n-lt100000000 in
    wrote-both _ _ (digits 19 (m s / 100000000)) (eight (m s)) _ (eights s) (start (goal.at.returns-then-n-lt1000000000000 c).Else-n-lt10000).requires c.put_short-from-then-n-lt1000000000000.ensures
    c.put_eight.ensures

-- ---- up to sixteen

pub put_four-last-requires : goal.put_four-last-requires
put_four-last-requires c =
    omega (arith, simp length-append at (ap length (twelves (goal.at.put_four-last-requires c).Else-n-lt1000000000000)), c.put_short-from-then-n-lt10000000000000000.ensures.0)

pub put_eight-requires-then-n-lt10000000000000000 : goal.put_eight-requires-then-n-lt10000000000000000
put_eight-requires-then-n-lt10000000000000000 c =
    let e = simp length-append at (ap length (twelves (goal.at.put_eight-requires-then-n-lt10000000000000000 c).Else-n-lt1000000000000)) in
    omega (arith, e, c.put_short-from-then-n-lt10000000000000000.ensures.0, c.put_four-last.ensures.0)

pub returns-then-n-lt10000000000000000 : goal.returns-then-n-lt10000000000000000
returns-then-n-lt10000000000000000 c =
    let s = (goal.at.returns-then-n-lt10000000000000000 c).Else-n-lt1000000000000 in
    wrote-three _ _ (digits 19 (k s / 1000000000000)) (four (k s / 100000000)) (eight (k s)) _ (twelves s) (start (goal.at.returns-then-n-lt10000000000000000 c).Else-n-lt10000).requires
    c.put_short-from-then-n-lt10000000000000000.ensures c.put_four-last.ensures c.put_eight-then-n-lt10000000000000000.ensures

-- ---- more

pub put_eight-last-requires : goal.put_eight-last-requires
put_eight-last-requires c =
    omega (arith, simp length-append at (ap length (sixteens (goal.at.put_eight-last-requires c).Else-n-lt10000000000000000)), c.put_short-from-2.ensures.0)

pub put_eight-requires-2 : goal.put_eight-requires-2
put_eight-requires-2 c =
    omega (arith, simp length-append at (ap length (sixteens (goal.at.put_eight-requires-2 c).Else-n-lt10000000000000000)), c.put_short-from-2.ensures.0, c.put_eight-last.ensures.0)

pub returns : goal.returns
returns c =
    let s = (goal.at.returns c).Else-n-lt10000000000000000 in
    wrote-three _ _ (digits 19 (l s / 10000000000000000)) (eight (l s / 100000000)) (eight (l s)) _ (sixteens s)
    (start (goal.at.returns c).Else-n-lt10000).requires c.put_short-from-2.ensures c.put_eight-last.ensures c.put_eight-2.ensures

pub put_short-from-requires : goal.put_short-from-requires
put_short-from-requires c = omega (arith, simp length-append at (ap length (fours (goal.at.put_short-from-requires c).Else-n-lt10000)))

pub put_short-from-requires-then-n-lt1000000000000 : goal.put_short-from-requires-then-n-lt1000000000000
put_short-from-requires-then-n-lt1000000000000 c = omega (arith, simp length-append at (ap length (eights (goal.at.put_short-from-requires-then-n-lt1000000000000 c).Else-n-lt100000000)))

pub put_short-from-requires-then-n-lt10000000000000000 : goal.put_short-from-requires-then-n-lt10000000000000000
put_short-from-requires-then-n-lt10000000000000000 c = omega (arith, simp length-append at (ap length (twelves (goal.at.put_short-from-requires-then-n-lt10000000000000000 c).Else-n-lt1000000000000)))

pub put_short-from-requires-2 : goal.put_short-from-requires-2
put_short-from-requires-2 c = omega (arith, simp length-append at (ap length (sixteens (goal.at.put_short-from-requires-2 c).Else-n-lt10000000000000000)))
