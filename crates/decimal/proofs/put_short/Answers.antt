-- `decimal::put_short` meets its contract: at most two digits; or those before the last two, and the last two.
use Rattle.std.proofs.Common.{ℕ, ◌/◌, ◌≡◌, ap, ◌++◌, arith, length, length-append}
use Rattle.paper.specs.Rests.{digits}
use Rattle.decimal.specs.Wrote.{wrote-both}
use Rattle.decimal.specs.Pairs.{pair, digits-pair}
use Rattle.decimal.proofs.put_short.Goals as goal
use Rattle.decimal.proofs.put_short.Goals.{Else-n-lt100}

-- three digits or more
module _ (c : Else-n-lt100) where
  abbrev n : ℕ
  n = c.args.n

  split : digits 19 n ≡ digits 19 (n / 100) ++ pair n
  split = digits-pair n c.if-n-lt100.false (omega arith)

pub put_pair-requires : goal.put_pair-requires
put_pair-requires c =
    omega (arith, simp length-append at (ap length (split (goal.at.put_pair-requires c).Else-n-lt100)), c.put_small-from.ensures.0)

pub returns : goal.returns
returns c =
    let s = (goal.at.returns c).Else-n-lt100 in
    wrote-both _ _ (digits 19 (n s / 100)) (pair (n s)) _ (split s) c.requires.1 c.put_small-from.ensures
    c.put_pair.ensures

pub put_small-from-requires : goal.put_small-from-requires
put_small-from-requires c = omega (arith, simp length-append at (ap length (split (goal.at.put_small-from-requires c).Else-n-lt100)))
