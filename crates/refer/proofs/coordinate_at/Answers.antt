-- `refer::coordinate_at` meets its contract.
use Rattle.std.proofs.Common.{get_or, length-set, refl, arith, rules, w32, SFits}
use Rattle.refer.specs.Places.{coordinate-more, coordinate-end}
use borrow.Author.Rules.{sfits_of}
use mir.ValLaws.{to_z-of_z}
use lib.IntN.{pos}
use Rattle.refer.proofs.coordinate_at.Goals as goal

pub loop-i-preserved : goal.loop-i-preserved
loop-i-preserved c =
    let l = c.loop-i in
    let zs = c.args.zs.now in
    let f : SFits w32 (get_or zs l.i (pos 0)) = sfits_of (search rules) in
    let d = rw (to_z-of_z w32 (get_or zs l.i (pos 0)) f) at c.distance_to.ensures in
    let m = coordinate-more zs l.at l.i _ c.loop-i-test.true (omega arith) d l.invariant.1 in
    (simp length-set l.invariant.0, m)

pub loop-i-init : goal.loop-i-init
loop-i-init c = (refl, refl)

pub returns : goal.returns
returns c = let l = c.loop-i in
    coordinate-end c.args.zs.now l.at l.i (omega arith) (omega arith) l.invariant.1
