-- `decimal::sign_length` meets its contract.
use Rattle.std.proofs.Common.{ap, arith, length, to_z-of_z}
use Rattle.decimal.specs.Ints.{sign_below, sign-from}
use Rattle.decimal.proofs.sign_length.Goals as goal

pub returns-then-z-lt0 : goal.returns-then-z-lt0
returns-then-z-lt0 c = omega (arith, ap length (sign_below c.args.z (simp (to_z-of_z c.ranges.z) at c.if-z-lt0.true)))

pub returns-else-z-lt0 : goal.returns-else-z-lt0
returns-else-z-lt0 c = omega (arith, ap length (sign-from c.args.z (simp (to_z-of_z c.ranges.z) at c.if-z-lt0.false)))
