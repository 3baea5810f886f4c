-- `c_asked::form_at` meets its contract: the form by its parts, whose axes fit the head's room.
use Rattle.std.proofs.Common.{◌+◌, ◌*◌, ◌≤◌, ap, arith, get_or}
use Rattle.paper.specs.Limits.{most_axes, sizes_of}
use Rattle.laws.specs.Sizes.{fits}
use Rattle.c_asked.specs.Heads.{form-told, head_few, head-room}
use Rattle.c_asked.proofs.form_at.Goals as goal
use Rattle.c_asked.proofs.form_at.Goals.{After-head_count-rank, Start}

-- the axes are counted
module _ (c : After-head_count-rank) where
  abbrev start : Start
  start = (goal.at.After-head_count-rank c).Start

  few : c.head_count-rank.result ≤ most_axes
  few = let v = start.args.v in omega (
    arith,
    c.head_count-rank.ensures,
    head_few (sizes_of v) (get_or start.args.s.now (start.args.at + 1) 0),
    (fits v).axes,
  )

  small : c.head_count-rank.result * (sizes_of start.args.v).axis ≤ (sizes_of start.args.v).axes * (sizes_of start.args.v).axis
  small = let z = sizes_of start.args.v in omega (
    arith,
    ap (λ n. n * z.axis) c.head_count-rank.ensures,
    head-room z (get_or start.args.s.now (start.args.at + 1) 0),
  )

pub returns : goal.returns
returns c =
    let a = (start (goal.at.returns c).After-head_count-rank).args in
    form-told (sizes_of a.v) a.s.now a.at c.head_count-rank.ensures c.bounds_at-bounds.ensures.0 c.bounds_at-bounds.ensures.1
    c.bounds_at-bounds.ensures.2

pub overflow_cast-s : goal.overflow_cast-s
overflow_cast-s c = omega (arith, c.shared_slice_known-3-1.given (c.args.at + 1))

pub bounds_at-bounds-requires : goal.bounds_at-bounds-requires
bounds_at-bounds-requires c = (few c, omega (arith, small c, (start c).requires))
