-- `place::found` meets its contract.
-- Each test's answer picks a case of the definition. A maximum with another number of axes holds no coordinate of the extent.
use Rattle.std.proofs.Common.{ℕ, false, ap, sym, ◌∙◌, ◌≡◌, arith, rules, length, length-take, take}
use Rattle.laws.specs.Places.{inside-true}
use Rattle.paper.specs.Answers.{axes_of}
use Rattle.paper.specs.Axes.{inside}
use Rattle.paper.specs.Limits.{most_axes}
use Rattle.place.specs.Positions.{at-ordinality, beyond, in-maximum, inside-other, positions_of}
use Rattle.place.proofs.found.Goals as goal
use Rattle.place.proofs.found.Goals.{After-is_inside-2, Then-rank_of}

no_room : (c : Then-rank_of) → inside (axes_of c.args.maximum) (positions_of (axes_of c.args.e) c.args.p) ≡ false
no_room c =
    let s = c in
    let l : length s.args.p.at ≡ most_axes = search rules in
    inside-other (axes_of s.args.maximum) (positions_of (axes_of s.args.e) s.args.p)
    (λ h. c.if-rank_of.true (omega (arith, h, length-take (length (axes_of s.args.e)) s.args.p.at, c.rank_of.ensures.number, c.rank_of-2.ensures.number, c.rank_of-2.ensures.few)))

-- the maximum's own answer is at the extent's positions, since both have as many axes
same-room : (c : After-is_inside-2) → inside (axes_of c.args.maximum) (positions_of (axes_of c.args.e) c.args.p) ≡ c.is_inside-2.result
same-room c =
    let s = c in
    let n : length (axes_of s.args.e) ≡ length (axes_of s.args.maximum) = omega (arith, c.if-rank_of.false, c.rank_of.ensures.number, c.rank_of-2.ensures.number) in
    ap (λ (r : ℕ). inside (axes_of s.args.maximum) (take r s.args.p.at)) n ∙ sym c.is_inside-2.ensures

pub ordinality_of-requires : goal.ordinality_of-requires
ordinality_of-requires c =
    let s = c in
    record { small = s.requires; inside = inside-true (axes_of s.args.e) (positions_of (axes_of s.args.e) s.args.p) (sym c.is_inside.ensures ∙ c.if-is_inside.true) }

pub returns-then-is_inside : goal.returns-then-is_inside
returns-then-is_inside c t N =
    let a = c.args in
    at-ordinality t N (axes_of a.e) (axes_of a.maximum) (positions_of (axes_of a.e) a.p) c.ordinality_of.result.0
    (sym c.is_inside.ensures ∙ c.if-is_inside.true) c.ordinality_of.ensures

pub returns-then-rank_of : goal.returns-then-rank_of
returns-then-rank_of c t N =
    let a = c.args in
    beyond t N (axes_of a.e) (axes_of a.maximum) (positions_of (axes_of a.e) a.p)
    (sym c.is_inside.ensures ∙ c.if-is_inside.false) (no_room c)

pub returns-then-is_inside-2 : goal.returns-then-is_inside-2
returns-then-is_inside-2 c t N =
    let a = c.args in
    in-maximum t N (axes_of a.e) (axes_of a.maximum) (positions_of (axes_of a.e) a.p)
    (sym c.is_inside.ensures ∙ c.if-is_inside.false)
    (same-room (goal.at.returns-then-is_inside-2 c).After-is_inside-2 ∙ c.if-is_inside-2.true)

pub returns : goal.returns
returns c t N =
    let a = c.args in
    beyond t N (axes_of a.e) (axes_of a.maximum) (positions_of (axes_of a.e) a.p)
    (sym c.is_inside.ensures ∙ c.if-is_inside.false)
    (same-room (goal.at.returns c).After-is_inside-2 ∙ c.if-is_inside-2.false)
