-- `rows::sides::past_single` meets its contract: the axes are among those that an extent has room for.
use Rattle.std.proofs.Common.{arith}
use Rattle.laws.specs.Answers.{axes-few}
use Rattle.rows.proofs.sides.past_single.Goals as goal

pub shared_ref_as_front-iter : goal.shared_ref_as_front-iter
shared_ref_as_front-iter c = omega (arith, axes-few c.args.t, c.requires)
