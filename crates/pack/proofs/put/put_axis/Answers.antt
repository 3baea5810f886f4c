-- `pack::put::put_axis` meets its contract: five parts, one after the other.
use Rattle.std.proofs.Common.{◌+◌, ◌≤◌, ◌≡◌, sym, ap, subst, ◌∙◌, arith, rules, length, take}
use Rattle.paper.specs.declared.Sizes.{Sizes}
use Rattle.paper.specs.Limits.{limits_bytes}
use Rattle.paper.specs.Axes.{letters_of}
use Rattle.laws.specs.Put.{put}
use Rattle.laws.specs.Sizes.{Fits, fits}
use Rattle.pack.specs.Put.{axis_part, axis-put}
use Rattle.pack.proofs.put.put_axis.Goals as goal
use Rattle.pack.proofs.put.put_axis.Goals.{After-put4, After-put4-2, After-put4-3, After-put_name, After-sizes-z, Start}

-- the version's sizes
module _ (c : After-sizes-z) where
  abbrev start : Start
  start = c.before.before.before

  abbrev z : Sizes
  z = c.sizes-z.result

  its : Fits z
  its = subst Fits (sym c.sizes-z.ensures) (fits start.args.v)

  all_room : start.args.at + z.axis ≤ length start.args.d.now
  all_room = subst (λ (x : Sizes). start.args.at + x.axis ≤ length start.args.d.now) (sym c.sizes-z.ensures) start.requires

  room : start.args.at + z.name + limits_bytes ≤ length start.args.d.now
  room = omega (arith, all_room, its.axis)

pub put_name-requires : goal.put_name-requires
put_name-requires c =
    let s = start (goal.at.put_name-requires c).After-sizes-z in
    omega (arith, s.requires, (fits s.args.v).axis)

pub returns : goal.returns
returns c =
    let p = (goal.at.returns c).After-sizes-z in
    let s = start p in
    let d = s.args.d.now in
    let e = c.sizes-z.ensures in
    subst (λ (x : Sizes). c.put4-4.new.d ≡ put d s.args.at (axis_part x s.args.n s.args.a s.args.m)) e
    (axis-put (z p) (its p) d c.put_name.new.d c.put4.new.d c.put4-2.new.d c.put4-3.new.d c.put4-4.new.d
    s.args.at s.args.n s.args.a s.args.m (all_room p)
    (c.put_name.ensures ∙ ap (λ (x : Sizes). put d s.args.at (take x.name (letters_of s.args.n))) (sym e))
    (rw c.bits_of.ensures at c.put4.ensures) (rw c.bits_of-2.ensures at c.put4-2.ensures)
    (rw c.bits_of-3.ensures at c.put4-3.ensures) (rw c.bits_of-4.ensures at c.put4-4.ensures))

-- each call after the name
module _ (c : After-put_name) where
  abbrev sized : After-sizes-z
  sized = record { before = c.before.before.before; type_inv = record { d = c.slice_known-1.given } }

module _ (c : After-put4) where
  abbrev first : After-put_name
  first = c.before.before.before.before.before

module _ (c : After-put4-2) where
  abbrev second : After-put4
  second = c.before.before.before.before.before

module _ (c : After-put4-3) where
  abbrev third : After-put4-2
  third = c.before.before.before.before.before

pub overflow_add-limits : goal.overflow_add-limits
overflow_add-limits c = let h = room (goal.at.overflow_add-limits c).After-sizes-z in search rules

pub put4-requires : goal.put4-requires
put4-requires c = let h = room (sized (goal.at.put4-requires c).After-put_name) in search rules

pub overflow_add-limits-2 : goal.overflow_add-limits-2
overflow_add-limits-2 c = let h = room (sized (first (goal.at.overflow_add-limits-2 c).After-put4)) in search rules

pub put4-requires-2 : goal.put4-requires-2
put4-requires-2 c = let h = room (sized (first (goal.at.put4-requires-2 c).After-put4)) in search rules

pub overflow_add-limits-3 : goal.overflow_add-limits-3
overflow_add-limits-3 c = let h = room (sized (first (second (goal.at.overflow_add-limits-3 c).After-put4-2))) in search rules

pub put4-requires-3 : goal.put4-requires-3
put4-requires-3 c = let h = room (sized (first (second (goal.at.put4-requires-3 c).After-put4-2))) in search rules

pub overflow_add-limits-4 : goal.overflow_add-limits-4
overflow_add-limits-4 c = let h = room (sized (first (second (third (goal.at.overflow_add-limits-4 c).After-put4-3)))) in search rules

pub overflow_add-limits-5 : goal.overflow_add-limits-5
overflow_add-limits-5 c = let h = room (sized (first (second (third (goal.at.overflow_add-limits-5 c).After-put4-3)))) in search rules

pub put4-requires-4 : goal.put4-requires-4
put4-requires-4 c = let h = room (sized (first (second (third (goal.at.put4-requires-4 c).After-put4-3)))) in search rules
