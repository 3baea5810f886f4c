-- `json_write::axis_left` meets its contract: the axes left are the last.
use Rattle.std.proofs.Common.{ℕ, ◌+◌, ◌-◌, ◌≡◌, ◌∙◌, ap, arith, length, get_or}
use Rattle.paper.specs.Axes.{no_axis}
use Rattle.paper.specs.Answers.{axes_of}
use Rattle.json_write.proofs.axis_left.Goals as goal

pub returns : goal.returns
returns c =
    let a = c.args in
    let h : c.rank_of-rank.result - a.left + 1 - 1 ≡ length (axes_of a.e) - a.left =
    omega (arith, c.rank_of-rank.ensures.number) in
    c.axis_of.ensures ∙ ap (λ (n : ℕ). get_or (axes_of a.e) n no_axis) h
