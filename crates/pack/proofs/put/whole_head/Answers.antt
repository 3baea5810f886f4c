-- `pack::put::whole_head` meets its contract.
use Rattle.std.proofs.Common.{◌*◌, ◌≤◌, sym, ap, subst, arith}
use Rattle.laws.specs.Sizes.{Fits, fits}
use Rattle.bundle.specs.Axes.{axes-small}
use Rattle.pack.specs.Heads.{head_length}
use Rattle.pack.proofs.put.whole_head.Goals as goal
use Rattle.pack.proofs.put.whole_head.Goals.{After-sizes-z}

small : (c : After-sizes-z) → c.sizes-z.result.axes * c.sizes-z.result.axis ≤ 192
small c = axes-small c.sizes-z.result (subst Fits (sym c.sizes-z.ensures) (fits c.args.v)) c.sizes-z.result.axes
    (omega arith)

pub returns : goal.returns
returns c = (ap head_length c.sizes-z.ensures, omega (arith, small (goal.at.returns c).After-sizes-z))

pub overflow_mul-result : goal.overflow_mul-result
overflow_mul-result c = omega (arith, small (goal.at.overflow_mul-result c).After-sizes-z)

pub overflow_add-result : goal.overflow_add-result
overflow_add-result c = omega (arith, small (goal.at.overflow_add-result c).After-sizes-z)
