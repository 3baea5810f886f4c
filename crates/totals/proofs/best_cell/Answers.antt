-- `totals::best_cell` meets its contract.
use Rattle.std.proofs.Common.{sym, ◌∙◌, rules}
use Rattle.totals.specs.Folds.{folds-as}
use Rattle.totals.specs.Best.{best-start, best-folds}
use Rattle.totals.proofs.best_cell.Goals as goal

pub returns : goal.returns
returns c =
    let f = folds-as (λ b x r p. search rules) _ _ _ c.over_cells.ensures in
    sym (best-folds c.args.largest 1 _ _ _ f) ∙ best-start c.args.largest _
