-- `bundle::axes::bounds_at` meets its contract: the loop keeps names, axes and maxima filled as far as it has come.
use Rattle.std.proofs.Common.{ℕ, ◌+◌, ◌*◌, ◌≤◌, ◌<◌, List, ◌≡◌, sym, ap, subst, ◌∙◌, arith, length, drop}
use Rattle.paper.specs.declared.Version.{Version}
use Rattle.paper.specs.declared.Sizes.{Sizes}
use Rattle.paper.specs.declared.Name.{Name}
use Rattle.paper.specs.declared.Extent.{Extent}
use Rattle.paper.specs.Limits.{most_axes, limits_bytes, sizes_of}
use Rattle.paper.specs.Numbers.{part}
use Rattle.paper.specs.Axes.{no_axis, no_name}
use Rattle.paper.specs.Bundle.{name_from, name_of, axis_of, maximum_of, each_axis}
use Rattle.paper.specs.Answers.{extent_of, names_of}
use Rattle.laws.specs.Sizes.{Fits, fits}
use Rattle.positions.specs.Runs.{Holds}
use Rattle.bundle.specs.Axes.{name-told, axis-told, maximum-told, axis-room, Filled, filled-start, filled_more, filled-names, filled-extent}
use Rattle.bundle.proofs.axes.bounds_at.Goals as goal
use Rattle.bundle.proofs.axes.bounds_at.Goals.{After-axis_at-m, After-sizes-z, In-loop-i}

-- the version's sizes
module _ (c : After-sizes-z) where
  abbrev z : Sizes
  z = c.sizes-z.result

  abbrev v : Version
  v = c.args.v

  abbrev s : List ℕ
  s = c.args.s.now

  abbrev at : ℕ
  at = c.args.at

  abbrev n : ℕ
  n = c.args.n

  its : Fits z
  its = subst Fits (sym c.sizes-z.ensures) (fits v)

  room : at + n * z.axis ≤ length s
  room = subst (λ (x : Sizes). at + n * x.axis ≤ length s) (sym c.sizes-z.ensures) c.requires.1

-- an axis
module _ (c : In-loop-i) where
  abbrev sized : After-sizes-z
  sized = record { before = c.before.before.before.before; type_inv = record { s = c.shared_slice_known-1.given } }

  abbrev i : ℕ
  i = c.loop-i.i

  inside : at sized + i * (z sized).axis + (z sized).name + limits_bytes ≤ length (s sized)
  inside = omega (
    arith,
    axis-room i (n sized) (z sized).axis (at sized) (length (s sized)) c.loop-i-test.true (room sized),
    (its sized).axis,
  )

  abbrev here : ℕ
  here = at sized + i * (z sized).axis

  name-holds : Holds here (sizes_of (v sized)).name (s sized)
  name-holds = subst (λ (x : Sizes). Holds here x.name (s sized)) sized.sizes-z.ensures (record { room = omega (arith, inside) })

pub loop-i-init : goal.loop-i-init
loop-i-init c =
    let p = (goal.at.loop-i-init c).After-sizes-z in (
      subst (λ (l : List Name). Filled (z p) no_name (name_of (z p)) (s p) (at p) (n p) 0 l) (sym c.no_names-names.ensures)
          (filled-start (z p) no_name (name_of (z p)) (s p) (at p) (n p)),
      filled-start (z p) no_axis (axis_of (z p)) (s p) (at p) (n p),
      filled-start (z p) no_axis (maximum_of (z p)) (s p) (at p) (n p),
    )

-- the three were read
module _ (c : After-axis_at-m) where
  abbrev again : In-loop-i
  again = record { before = c.before.before.before.before.before.before.before; type_inv = record { s = c.shared_slice_known-1.given } }

  long : (length again.loop-i.names ≡ most_axes) × (length again.loop-i.axes ≡ most_axes)
      × (length again.loop-i.maxima ≡ most_axes)
  long = let f = again.loop-i.invariant in (f.0.long, f.1.long, f.2.long)

  few : i again < n (sized again)
  few = again.loop-i-test.true

pub loop-i-preserved : goal.loop-i-preserved
loop-i-preserved c =
    let q = again c in
    let p = sized q in
    let l = q.loop-i in
    let f = its p in
    let h : i q < most_axes = omega (arith, few c, p.requires.0) in
    let e = c.name_at-name.ensures
    ∙ ap (λ (x : Sizes). name_from (part (here q) x.name (s p))) (sym p.sizes-z.ensures) in (
      filled_more (z p) no_name (name_of (z p)) (s p) (at p) (n p) (i q) l.names _ (few c) h (name-told (z p) f (s p) (here q) _ e)
          l.invariant.0,
      filled_more (z p) no_axis (axis_of (z p)) (s p) (at p) (n p) (i q) l.axes _ (few c) h
          (axis-told (z p) f (s p) (here q) _ c.axis_at-a.ensures) l.invariant.1,
      filled_more (z p) no_axis (maximum_of (z p)) (s p) (at p) (n p) (i q) l.maxima _ (few c) h
          (maximum-told (z p) f (s p) (here q) _ c.axis_at-m.ensures) l.invariant.2,
    )

pub returns : goal.returns
returns c =
    let p = (goal.at.returns c).After-sizes-z in
    let l = c.loop-i in
    subst (λ (x : Sizes). (l.names ≡ names_of (each_axis x (name_of x) (n p) (drop (at p) (s p))))
    × (◌≡◌ {A = Extent} (record { rank = n p; axes = l.axes }) (extent_of (each_axis x (axis_of x) (n p) (drop (at p) (s p)))))
    × (◌≡◌ {A = Extent} (record { rank = n p; axes = l.maxima }) (extent_of (each_axis x (maximum_of x) (n p) (drop (at p) (s p))))))
    c.sizes-z.ensures (
      filled-names (z p) (s p) (at p) (n p) l.i (omega arith) c.loop-i-test.false (name_of (z p)) l.names l.invariant.0,
      filled-extent (z p) (s p) (at p) (n p) l.i (omega arith) c.loop-i-test.false (axis_of (z p)) l.axes l.invariant.1,
      filled-extent (z p) (s p) (at p) (n p) l.i (omega arith) c.loop-i-test.false (maximum_of (z p)) l.maxima l.invariant.2,
    )

pub overflow_mul-here : goal.overflow_mul-here
overflow_mul-here c = omega (arith, inside (goal.at.overflow_mul-here c).In-loop-i)

pub overflow_add-here : goal.overflow_add-here
overflow_add-here c = omega (arith, inside (goal.at.overflow_add-here c).In-loop-i)

pub name_at-name-requires : goal.name_at-name-requires
name_at-name-requires c = name-holds (goal.at.name_at-name-requires c).In-loop-i

pub overflow_add-here-in-loop-i : goal.overflow_add-here-in-loop-i
overflow_add-here-in-loop-i c = omega (arith, inside (goal.at.overflow_add-here-in-loop-i c).In-loop-i)

pub axis_at-a-requires : goal.axis_at-a-requires
axis_at-a-requires c = omega (arith, inside (goal.at.axis_at-a-requires c).In-loop-i)

pub overflow_add-here-in-loop-i-2 : goal.overflow_add-here-in-loop-i-2
overflow_add-here-in-loop-i-2 c = omega (arith, inside (goal.at.overflow_add-here-in-loop-i-2 c).In-loop-i)

pub overflow_add-here-in-loop-i-3 : goal.overflow_add-here-in-loop-i-3
overflow_add-here-in-loop-i-3 c = omega (arith, inside (goal.at.overflow_add-here-in-loop-i-3 c).In-loop-i)

pub axis_at-m-requires : goal.axis_at-m-requires
axis_at-m-requires c = omega (arith, inside (goal.at.axis_at-m-requires c).In-loop-i)

pub offset_bounds-names-i : goal.offset_bounds-names-i
offset_bounds-names-i c = omega (arith, few c)

pub bounds-names-i : goal.bounds-names-i
bounds-names-i c = omega (arith, few c, long c)

pub offset_bounds-axes-i : goal.offset_bounds-axes-i
offset_bounds-axes-i c = omega (arith, few c)

pub bounds-axes-i : goal.bounds-axes-i
bounds-axes-i c = omega (arith, few c, long c)

pub offset_bounds-maxima-i : goal.offset_bounds-maxima-i
offset_bounds-maxima-i c = omega (arith, few c)

pub bounds-maxima-i : goal.bounds-maxima-i
bounds-maxima-i c = omega (arith, few c, long c)
