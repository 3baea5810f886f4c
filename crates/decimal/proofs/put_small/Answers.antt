-- `decimal::put_small` meets its contract: two bytes are stored, in one place or two.
use Rattle.std.proofs.Common.{refl, arith, length-set}
use Rattle.decimal.specs.Pairs.{last-place, small-stored}
use Rattle.decimal.proofs.put_small.Goals as goal

pub returns : goal.returns
returns c = (
  omega (arith, last-place c.args.n refl c.requires.0),
  small-stored c.args.out.now c.args.at c.args.n refl c.requires.0 c.requires.1,
)

pub overflow_add-last : goal.overflow_add-last
overflow_add-last c = omega (arith, last-place c.args.n refl c.requires.0)

pub bounds-out-at : goal.bounds-out-at
bounds-out-at c = omega (arith, last-place c.args.n refl c.requires.0)

pub bounds-out-last : goal.bounds-out-last
bounds-out-last c = simp length-set (omega (arith, last-place c.args.n refl c.requires.0))

pub overflow_add-result : goal.overflow_add-result
overflow_add-result c = omega (arith, last-place c.args.n refl c.requires.0)
