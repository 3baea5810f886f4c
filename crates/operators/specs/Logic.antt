-- AND and OR as one: AND is decided by FALSE and OR by TRUE, so that `decided_by false` is `and_cell` and `decided_by true` is `or_cell`.
use Rattle.std.specs.Prelude.{Bool, not, ◌&&◌, ◌||◌, if◌then◌else◌}
use Rattle.paper.specs.Cells.{is_truth}
use Rattle.paper.specs.declared.Cell.{Cell}
use Rattle.paper.specs.declared.Cell.TheVariants.{Empty, Truth}

unfoldable pub decided_by : Bool → Cell → Cell → Cell
decided_by v a b =
    if is_truth v a || is_truth v b then Truth v else (if is_truth (not v) a && is_truth (not v) b then Truth (not v) else Empty)
