-- `cell::sums::distance` meets its contract. Assumes nothing.
use Rattle.std.proofs.Common.{◌+◌, ◌%◌, ◌^◌, pos, ◌-ℤ◌, arith, to_z-of_z}
use Rattle.laws.specs.Parts.{one-part, minus-parts, fit_parts, bits-parts, parts-eq}
use Rattle.paper.specs.Limits.{smallest_int}
use Rattle.cell.proofs.sums.distance.Goals as goal

pub returns : goal.returns
returns c =
    let z = c.args.z in
    let f = c.ranges.z in
    let e = simp (to_z-of_z f) at c.cast_unsigned.ensures in
    parts-eq (pos ((c.cast_unsigned.result + 2 ^ 63) % 2 ^ 64)) (z -ℤ smallest_int)
    (omega (arith, minus-parts z smallest_int, one-part z, bits-parts z f, fit_parts f, e))
