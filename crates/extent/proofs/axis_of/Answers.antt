-- `extent::axis_of` meets its contract.
-- Past the last axis there is none; before it, the first axes of the array are the extent's.
use Rattle.std.proofs.Common.{ℕ, ap, ◌∙◌, get_or}
use Rattle.extent.specs.Rank.{axis-first, axis-past}
use Rattle.paper.specs.Answers.{axes_of}
use Rattle.paper.specs.Axes.{no_axis}
use Rattle.extent.proofs.axis_of.Goals as goal

pub returns-then-rank-i : goal.returns-then-rank-i
returns-then-rank-i c =
    let e = c.args.e in
    axis-past e c.rank_of-rank.result c.rank_of-rank.ensures c.from_zero-i.result c.if-rank-i.true ∙ ap (λ (i : ℕ). get_or (axes_of e) i no_axis) c.from_zero-i.ensures

pub returns : goal.returns
returns c =
    let e = c.args.e in
    axis-first e c.rank_of-rank.result c.rank_of-rank.ensures c.from_zero-i.result c.if-rank-i.false ∙ ap (λ (i : ℕ). get_or (axes_of e) i no_axis) c.from_zero-i.ensures
