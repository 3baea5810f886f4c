-- `json_due::due_inside` meets its contract: the axis has all its positions left.
use Rattle.std.proofs.Common.{rules, ℕ, ◌+◌, ◌-◌, ◌≡◌, refl, sym, ◌∙◌, ap, subst, arith, length, get_or}
use Rattle.paper.specs.Limits.{most_axes}
use Rattle.paper.specs.Axes.{no_axis}
use Rattle.paper.specs.Answers.{axes_of}
use Rattle.laws.specs.Limits.{sound-at}
use Rattle.extent.specs.Tests.{Ranged}
use Rattle.json_due.specs.Due.{opened-so}
use Rattle.json_due.proofs.due_inside.Goals as goal
use Rattle.json_due.proofs.due_inside.Goals.{Start}

six : (c : Start) → length c.args.left ≡ most_axes
six c = search rules

pub width_of-width-requires : goal.width_of-width-requires
width_of-width-requires c = let a = c.args in let e : a.level + 1 - 1 ≡ a.level = omega arith in subst Ranged (sym (c.axis_of.ensures ∙ ap (λ (n : ℕ). get_or (axes_of a.e) n no_axis) e)) (sound-at (axes_of a.e) a.level no_axis c.requires.0 c.requires.1)

pub returns : goal.returns
returns c = let a = c.args in let e : a.level + 1 - 1 ≡ a.level = omega arith in opened-so (axes_of a.e) a.level a.left _ _ _ _ (six (goal.at.returns c).Start) (omega (arith, six (goal.at.returns c).Start, c.requires.1, c.rank_of-rank.ensures.few, c.rank_of-rank.ensures.number)) c.requires.1 (c.axis_of.ensures ∙ ap (λ (n : ℕ). get_or (axes_of a.e) n no_axis) e) c.width_of-width.ensures.0 refl (c.due_next.ensures (axes_of a.e) (sym c.rank_of-rank.ensures.number))
