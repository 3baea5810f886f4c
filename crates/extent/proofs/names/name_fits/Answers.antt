-- `extent::names::name_fits` meets its contract: version 1 has no last letters, version 2 has room for all.
use Rattle.std.proofs.Common.{◌<◌, ◌^◌, rules}
use Rattle.paper.specs.Limits.{half_name}
use Rattle.extent.specs.Names.{fits_one, fits-two}
use Rattle.extent.proofs.names.name_fits.Goals as goal

pub returns-in-One : goal.returns-in-One
returns-in-One c =
    let s = c in
    let h : s.args.n.last < 256 ^ half_name = search rules in
    rw c.in-One.is (fits_one s.args.n h)

pub returns-in-Two : goal.returns-in-Two
returns-in-Two c = rw c.in-Two.is (fits-two c.args.n)
