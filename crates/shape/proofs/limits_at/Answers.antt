-- `shape::limits_at` meets its contract.
-- The two positions of the pair.
use Rattle.std.proofs.Common.{ℕ, List, ap, ap₂, sym, ◌∙◌, take, drop-drop, w32, to_z}
use Rattle.paper.specs.Axes.{limited}
use Rattle.paper.specs.Limits.{limit_bytes}
use Rattle.paper.specs.Numbers.{distance, le_of}
use Rattle.shape.proofs.limits_at.Goals as goal

pub returns : goal.returns
returns c =
    let s = c.args.s.now in
    ap₂ limited c.position_at-lo.ensures (c.position_at-hi.ensures
    ∙ ap (λ (l : List ℕ). distance (to_z w32 (le_of (take limit_bytes l))))
    (sym (drop-drop limit_bytes c.args.at s)))
