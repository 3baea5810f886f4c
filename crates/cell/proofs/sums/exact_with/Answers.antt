-- `cell::sums::exact_with` meets its contract: the fields with a cell added, by Exactly.antt. Assumes nothing.
use Rattle.std.proofs.Common.{refl, to_z-of_z, rules}
use Rattle.cell.proofs.Exactly.{sums-more}
use Rattle.cell.proofs.sums.exact_with.Goals as goal

pub returns : goal.returns
returns c =
    let d = c in
    let f = d.ranges.z in
    sums-more d.args.t d.distance-x.result _ _ _ d.args.z (simp (to_z-of_z f) at d.distance-x.ensures) (search rules)
    refl refl refl
