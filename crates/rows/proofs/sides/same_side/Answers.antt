-- `rows::sides::same_side` meets its contract: x stands below axis e, above it or on it.
use Rattle.std.proofs.Common.{arith}
use Rattle.rows.specs.Sides.{side-below, side-above, side-on}
use Rattle.rows.proofs.sides.same_side.Goals as goal

pub returns-then-x-e : goal.returns-then-x-e
returns-then-x-e c =
    let n = c.min.result in
    side-below c.args.a c.args.e c.args.x n (omega arith) (omega (arith, c.requires)) (omega arith)

pub returns-then-e-x : goal.returns-then-e-x
returns-then-e-x c =
    side-above c.args.a c.args.e c.args.x _ (omega arith) (omega (arith, c.requires)) c.if-e-x.true

pub returns : goal.returns
returns c =
    let n = c.min-2.result in
    side-on c.args.a c.args.e c.args.x n (omega arith) (omega (arith, c.requires)) (omega arith) (omega arith)
