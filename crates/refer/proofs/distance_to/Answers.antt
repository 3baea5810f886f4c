-- `refer::distance_to` meets its contract: a signed number's bits read back are the number. Assumes nothing.
use Rattle.std.proofs.Common.{w32}
use mir.ValLaws.{to_z-of_z}
use Rattle.refer.proofs.distance_to.Goals as goal

pub returns : goal.returns
returns c =
    let f = to_z-of_z w32 c.args.z c.ranges.z in
    rw (c.distance_of.ensures, c.cast_unsigned.ensures, f, f)
