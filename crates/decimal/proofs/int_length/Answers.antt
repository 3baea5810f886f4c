-- `decimal::int_length` meets its contract: the sign, and the digits of the magnitude.
use Rattle.std.proofs.Common.{arith, to_z-of_z}
use Rattle.decimal.specs.Digits.{digits-most}
use Rattle.decimal.specs.Ints.{decimal-long}
use Rattle.decimal.proofs.int_length.Goals as goal

pub overflow_add-result : goal.overflow_add-result
overflow_add-result c = omega (arith, digits-most 19 c.magnitude.result)

pub returns : goal.returns
returns c =
    let f = c.ranges.z in
    omega (
      arith,
      decimal-long c.args.z c.magnitude.result
          (simp (to_z-of_z f) at c.magnitude.ensures),
      simp (to_z-of_z f) at c.sign_length.ensures.0,
    )
