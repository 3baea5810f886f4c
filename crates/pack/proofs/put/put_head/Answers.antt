-- `pack::put::put_head` meets its contract: type, axis count and axes, one after the other.
use Rattle.std.proofs.Common.{arith, rules, ◌+◌, ◌*◌, ◌≤◌, ◌≡◌, sym, ap, subst, ◌∙◌, length, set, length-set, length-take-le}
use Rattle.paper.specs.declared.Sizes.{Sizes}
use Rattle.paper.specs.Limits.{most_axes, type_bytes, sizes_of}
use Rattle.paper.specs.Bundle.{axes_bytes}
use Rattle.paper.specs.Answers.{axes_of, shape_of}
use Rattle.laws.specs.Answers.{axes-few}
use Rattle.laws.specs.Sizes.{Fits, fits}
use Rattle.laws.specs.Put.{put}
use Rattle.laws.specs.Loops.{length-mapped}
use Rattle.pack.specs.Heads.{Named, HeadRoom, HeadPut, head-kept, head-axes, head-put}
use Rattle.pack.proofs.put.put_head.Goals as goal
use Rattle.pack.proofs.put.put_head.Goals.{After-put_axes, After-rank_of-rank, After-struct_known-1, Start}

-- the axes are counted
module _ (c : After-rank_of-rank) where
  abbrev start : Start
  start = c.before.before.before.before

  abbrev z : Sizes
  z = c.sizes-z.result

  same : z ≡ sizes_of start.args.v
  same = c.sizes-z.ensures

  its : Fits z
  its = subst Fits (sym same) (fits start.args.v)

  room : HeadRoom z start.args.form start.args.at start.args.d.now
  room = subst (λ (x : Sizes). HeadRoom x start.args.form start.args.at start.args.d.now) (sym same) start.requires

  long : start.args.at + (type_bytes + c.rank_of-rank.result * z.axis) ≤ length start.args.d.now
  long = omega (arith, room.room, ap (λ n. n * z.axis) c.rank_of-rank.ensures.number)

  named : Named start.args.form
  named =
      let full : length start.args.form.names ≡ most_axes = search (rules, length-mapped) in
      length-take-le (length (axes_of start.args.form.extent)) start.args.form.names
      (omega (arith, full, axes-few start.args.form.extent))

-- and written
module _ (c : After-struct_known-1) where
  abbrev wrote : After-put_axes
  wrote = c.before.before.before.before

  abbrev counted : After-rank_of-rank
  counted = c.before.before.before.before.before.before.before.before.before

  its-put : HeadPut (z counted) (start counted).args.form (start counted).args.at (start counted).args.d.now
      ((start counted).args.at + type_bytes + counted.rank_of-rank.result * (z counted).axis) wrote.put_axes.new.d
  its-put =
      let q = counted in
      let a = (start q).args in
      let s = shape_of a.form in
      let d = set (set a.d.now a.at a.form.kind) (a.at + 1) q.rank_of-rank.result in
      head-put (its q) (room q) (named q) q.rank_of-rank.ensures.number
      (wrote.put_axes.ensures ∙ ap (λ (x : Sizes). put d (a.at + type_bytes) (axes_bytes x s.names s.axes s.maximum))
      (sym (same q)))

pub returns : goal.returns
returns c =
    let q = counted c in
    subst (λ (x : Sizes). HeadPut x (start q).args.form (start q).args.at (start q).args.d.now
    ((start q).args.at + type_bytes + q.rank_of-rank.result * (z q).axis) (wrote c).put_axes.new.d) (same q) (its-put c)

pub bounds-d-at : goal.bounds-d-at
bounds-d-at c = omega (arith, long c)

pub overflow_cast-d : goal.overflow_cast-d
overflow_cast-d c = omega (arith, c.rank_of-rank.ensures.few)

pub overflow_add-d : goal.overflow_add-d
overflow_add-d c = omega (arith, long c)

pub bounds-d-at-2 : goal.bounds-d-at-2
bounds-d-at-2 c = simp length-set (omega (arith, long c))

pub overflow_add-at : goal.overflow_add-at
overflow_add-at c = omega (arith, long (goal.at.overflow_add-at c).After-rank_of-rank)

pub put_axes-requires : goal.put_axes-requires
put_axes-requires c =
    let s = (goal.at.put_axes-requires c).After-rank_of-rank in
    head-axes (fits (start s).args.v) (start s).requires c.rank_of-rank.ensures.number

pub overflow_add-result : goal.overflow_add-result
overflow_add-result c = omega (arith, long (goal.at.overflow_add-result c).After-rank_of-rank)

pub overflow_mul-result : goal.overflow_mul-result
overflow_mul-result c = omega (arith, long (counted c))

pub overflow_add-result-2 : goal.overflow_add-result-2
overflow_add-result-2 c = omega (arith, long (counted c))

pub shape_of-d : goal.shape_of-d
shape_of-d c = head-kept (its (counted c)) (room (counted c)) (its-put c)
