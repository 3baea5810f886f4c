-- `place::is_inside` meets its contract.
-- The test of each axis with its position, as the chain has it.
use Rattle.std.proofs.Common.{◌≡◌, ◌∙◌, ap, arith, length, length-take, rules, sym}
use Rattle.std.proofs.lemmas.Iterator.{YieldsList-from_slice, YieldsList-from_zip}
use Rattle.std.proofs.lemmas.Iterator.Search.{all_from_yields_List}
use Rattle.extent.specs.Meeting.{alike-zip}
use Rattle.paper.specs.Answers.{axes_of}
use Rattle.paper.specs.Axes.{on_axis}
use Rattle.paper.specs.Limits.{most_axes}
use Rattle.place.specs.Positions.{first-positions, positions_of}
use Rattle.place.proofs.is_inside.Goals as goal

pub returns : goal.returns
returns c =
    let e = axes_of c.args.e in
    let p = positions_of e c.args.p in
    let r = c.rank_of-rank in
    let l : length c.args.p.at ≡ most_axes = search rules in
    all_from_yields_List (λ x. on_axis x.0 x.1) c.all.new.self _ _ c.all.ensures.ran
    (YieldsList-from_zip
    (YieldsList-from_slice {s = c.zip.result.a} e (ap (λ i. i.rest.now) c.zip.ensures.first ∙ c.iter.ensures.rest ∙ r.ensures.first))
    (YieldsList-from_slice {s = c.zip.result.b} p (c.zip.ensures.second.0 ∙ first-positions c.args.e r.result c.args.p r.ensures)))
    (λ x b q k. search rules)
    ∙ sym (alike-zip on_axis e p (omega (arith, length-take (length e) c.args.p.at, r.ensures.number, r.ensures.few)))
