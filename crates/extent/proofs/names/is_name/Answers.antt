-- `extent::names::is_name` meets its contract: the first byte is a letter, and the others go on so.
use Rattle.std.proofs.Common.{◌<◌, ◌^◌, refl, ◌∙◌, arith, rules, []}
use Rattle.paper.specs.Limits.{half_name}
use Rattle.paper.specs.Numbers.{le_bytes, zeros}
use Rattle.paper.specs.Axes.{name_rest}
use Rattle.extent.specs.Names.{name-first, name-high, name-low, last-half, last-zero}
use Rattle.extent.proofs.names.is_name.Goals as goal
use Rattle.extent.proofs.names.is_name.Goals.{Start}

-- both halves are eight bytes
bounds : (c : Start) → (c.args.n.first < 256 ^ half_name) × (c.args.n.last < 256 ^ half_name)
bounds c = (search rules, search rules)

pub returns-then-initial-lt97 : goal.returns-then-initial-lt97
returns-then-initial-lt97 c = name-low c.args.n c.if-initial-lt97.true

pub returns-then-initial-gt122 : goal.returns-then-initial-gt122
returns-then-initial-gt122 c = name-high c.args.n c.if-initial-lt97.false c.if-initial-gt122.true

pub goes_on-last-requires : goal.goes_on-last-requires
goes_on-last-requires c = record { few = omega arith; fits = omega (arith, bounds c.before.before.before) }

pub goes_on-requires : goal.goes_on-requires
goes_on-requires c = record { few = omega arith; fits = omega (arith, bounds c.before.before.before.before.before.before) }

pub returns : goal.returns
unfolding name_rest zeros
returns c =
    let e = c.before.before.before.before in
    let n = e.args.n in
    let l = c.goes_on-last.ensures [] refl refl in
    c.goes_on.ensures (le_bytes half_name n.last) (l ∙ last-half n.last)
    (last-zero n.last (bounds e.before.before.before).1)
    ∙ name-first n e.if-initial-lt97.false e.if-initial-gt122.false
