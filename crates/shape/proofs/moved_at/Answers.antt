-- `shape::moved_at` meets its contract.
-- Both limits moved by the amount.
use Rattle.std.proofs.Common.{ℕ, ap, ap₂, ◌∙◌, w32, to_z}
use Rattle.paper.specs.Axes.{limited}
use Rattle.paper.specs.Numbers.{moved}
use Rattle.shape.proofs.moved_at.Goals as goal

pub returns : goal.returns
returns c =
    let a = c.args.a in
    let e = c.half-by.ensures in
    ap₂ limited (c.moved_by-lo.ensures ∙ ap (λ (n : ℕ). moved a.lo (to_z w32 n)) e)
    (c.moved_by-hi.ensures ∙ ap (λ (n : ℕ). moved a.hi (to_z w32 n)) e)
