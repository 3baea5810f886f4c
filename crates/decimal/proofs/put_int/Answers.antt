-- `decimal::put_int` meets its contract: `-` is stored, and the digits of the magnitude after it or over it.
use Rattle.std.proofs.Common.{◌≡◌, ◌∙◌, refl, arith, length, length-set, to_z-of_z}
use lib.IntN.{ℤ, nat_abs}
use Rattle.decimal.specs.Digits.{digits-some}
use Rattle.decimal.specs.Ints.{sign, decimal-long, signed-wrote}
use Rattle.decimal.proofs.put_int.Goals as goal
use Rattle.decimal.proofs.put_int.Goals.{After-magnitude, Start}

pub bounds-out-at : goal.bounds-out-at
bounds-out-at c = let z = c.args.z in omega (arith, decimal-long z (nat_abs z) refl, digits-some 19 (nat_abs z), c.requires)

-- the sign and the magnitude are had
module _ (c : After-magnitude) where
  abbrev start : Start
  start = c.before.before.before.before

  abbrev z : ℤ
  z = start.args.z

  size : c.magnitude.result ≡ nat_abs z
  size = simp (to_z-of_z start.ranges.z) at c.magnitude.ensures

  signed : c.sign_length.result ≡ length (sign z)
  signed = simp (to_z-of_z start.ranges.z) at c.sign_length.ensures.0

pub put_decimal-requires : goal.put_decimal-requires
put_decimal-requires c = simp length-set (omega (arith, decimal-long (z c) c.magnitude.result (size c), signed c, (start c).requires))

pub shape_of-out : goal.shape_of-out
shape_of-out c = c.put_decimal.auto.out ∙ simp length-set

pub returns : goal.returns
returns c =
    let p = (goal.at.returns c).After-magnitude in
    let s = start p in
    signed-wrote (z p) (size p) (signed p) s.args.out.now s.args.at s.requires c.put_decimal.ensures
