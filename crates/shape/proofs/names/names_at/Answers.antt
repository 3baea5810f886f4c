-- `shape::names::names_at` meets its contract.
-- The loop has as many of the new names as it has passed.
use Rattle.std.proofs.Common.{ℕ, ◌*◌, ◌+◌, ◌≤◌, ◌≡◌, refl, ap, ◌∙◌, arith, length}
use Rattle.paper.specs.declared.Sizes.{Sizes}
use Rattle.paper.specs.Limits.{sizes_of}
use Rattle.paper.specs.Numbers.{part}
use Rattle.paper.specs.Bundle.{name_from}
use Rattle.shape.specs.Names.{renamed-more, renamed-all, names-room}
use Rattle.shape.proofs.names.names_at.Goals as goal
use Rattle.shape.proofs.names.names_at.Goals.{In-loop-i, Start}

pub loop-i-init : goal.loop-i-init
loop-i-init c = (ap length c.no_names-new.ensures, λ N n. refl)

module _ (c : In-loop-i) where
  abbrev s : Start
  s = c.before.before.before.before.before.before

  abbrev i : ℕ
  i = c.loop-i.i

  abbrev w : ℕ
  w = (sizes_of s.args.v).name

  width : i * c.sizes-z.result.name ≡ i * w
  width = ap (λ (z : Sizes). i * z.name) c.sizes-z.ensures

  room : s.args.at + i * w + w ≤ length s.args.s.now
  room = names-room i s.args.rank w s.args.at (length s.args.s.now) c.loop-i-test.true s.requires.holds.room

pub overflow_mul-i : goal.overflow_mul-i
overflow_mul-i c = omega (arith, width c, room c, c.shared_slice_known-1.given 0)

pub overflow_add-at : goal.overflow_add-at
overflow_add-at c = omega (arith, width c, room c, c.shared_slice_known-1.given 0)

pub bounds-new-i : goal.bounds-new-i
bounds-new-i c = omega (arith, c.loop-i-test.true, (s (goal.at.bounds-new-i c).In-loop-i).requires.rank_le_most_axes)

pub name_at-requires : goal.name_at-requires
name_at-requires c = record { room = omega (arith, width c, room c) }

pub loop-i-preserved : goal.loop-i-preserved
loop-i-preserved c =
    let t = (goal.at.loop-i-preserved c).In-loop-i in
    let l = t.loop-i in
    let e = c.name_at.ensures ∙ ap (λ (n : ℕ). name_from (part ((s t).args.at + n) (w t) (s t).args.s.now)) (width t) in
    renamed-more (w t) (s t).args.rank (s t).args.s.now (s t).args.at l.i l.new c.name_at.result
    l.invariant t.loop-i-test.true (s t).requires.rank_le_most_axes e

pub returns : goal.returns
returns c =
    let s = c in
    let l = c.loop-i in
    renamed-all (sizes_of s.args.v).name s.args.rank s.args.s.now s.args.at l.i l.new l.invariant
    c.loop-i-test.false (omega arith)
