-- `place::coordinate_of` meets its contract.
-- From the last axis to the first: the positions from i on are those of what is left over within the axes from i on.
use Rattle.std.proofs.Common.{ℕ, ◌%◌, ◌*◌, ◌+◌, ◌-◌, ◌/◌, ◌<◌, ◌≤◌, List, ◌∷◌, ap, ap₂, refl, sym, ◌∙◌, mod-lt, arith, length, length-set, replicate, take}
use Rattle.laws.specs.Limits.{Sound}
use Rattle.laws.specs.Loops.{at_offset-down, at_offset-none, at_offset-whole, drop-first, drop-none, left_down, left-none, set-down, sound-first}
use Rattle.extent.specs.Rank.{axis_no}
use Rattle.paper.specs.Axes.{at_offset, cells, no_axis}
use Rattle.paper.specs.Limits.{most_axes, reach}
use Rattle.paper.specs.declared.Axis.{Axis}
use Rattle.place.proofs.coordinate_of.Goals as goal
use Rattle.place.proofs.coordinate_of.Goals.{After-a-1, After-rank_of-i}

module _ (c : After-rank_of-i) where
  abbrev l : List Axis
  l = c.args.e.axes

  abbrev r : ℕ
  r = c.rank_of-i.result

  -- the cells before the ordinality
  abbrev k : ℕ
  k = c.args.o.0 - 1

  room : r ≤ length l
  room = c.rank_of-i.ensures.room

  sound : Sound (take r l)
  sound = rw c.rank_of-i.ensures.first c.requires.small.sound

-- the limits of the axis that the loop is at
limits : (c : After-a-1) → ((axis_no c.args.e (c.loop-i.i - 1)).lo ≤ (axis_no c.args.e (c.loop-i.i - 1)).hi) × ((axis_no c.args.e (c.loop-i.i - 1)).hi ≤ 2 * reach)
limits c = sound-first (l c.before.before.before) (r c.before.before.before) (room c.before.before.before) (c.loop-i.i - 1) no_axis (sound c.before.before.before) (omega arith)

pub loop-i-init : goal.loop-i-init
loop-i-init c =
    (refl, left-none (l c) (r c) (room c) (sound c) (k c), drop-first (replicate most_axes 0) (r c) c.rank_of-i.ensures.few ∙ sym (at_offset-none (l c) (r c) (room c) (sound c) (k c)))

pub width_of-w-requires : goal.width_of-w-requires
width_of-w-requires c = limits c

pub nonzero_rem-left : goal.nonzero_rem-left
nonzero_rem-left c = omega (arith, limits (goal.at.nonzero_rem-left c).After-a-1)

pub risen-requires : goal.risen-requires
risen-requires c = omega (arith, limits (goal.at.risen-requires c).After-a-1, mod-lt c.loop-i.left {m = c.width_of-w.result} (omega (arith, limits (goal.at.risen-requires c).After-a-1)))

pub nonzero_div-left : goal.nonzero_div-left
nonzero_div-left c = omega (arith, limits (goal.at.nonzero_div-left c).After-a-1)

pub loop-i-preserved : goal.loop-i-preserved
loop-i-preserved c =
    let s = (goal.at.loop-i-preserved c).After-rank_of-i in
    let v = c.loop-i in
    let q = ap₂ ◌/◌ v.invariant.1 c.width_of-w.ensures.0 in
    let m = ap₂ ◌%◌ v.invariant.1 c.width_of-w.ensures.0 in (
      simp length-set v.invariant.0,
      q ∙ left_down (l s) (r s) (room s) (sound s) (k s) v.i no_axis (omega arith) (omega arith),
      set-down v.at (r s) (omega arith) v.i c.risen.result (omega arith) (omega arith)
          ∙ ap₂ (λ (x : ℕ) (xs : List ℕ). x ∷ xs) (c.risen.ensures ∙ ap (λ (n : ℕ). (axis_no s.args.e (v.i - 1)).lo + n) m) v.invariant.2
          ∙ sym (at_offset-down (l s) (r s) (room s) (sound s) (k s) v.i no_axis (omega arith) (omega arith)),
    )

pub returns : goal.returns
returns c =
    let s = (goal.at.returns c).After-rank_of-i in
    let v = c.loop-i in
    let few : k s < cells (take (r s) (l s)) = omega (arith, ap cells s.rank_of-i.ensures.first, s.requires.counted.one, s.requires.counted.last) in
    ap (λ (n : ℕ). take n v.at) (sym s.rank_of-i.ensures.number)
    ∙ sym (drop-none (take (r s) v.at) v.i (omega arith))
    ∙ v.invariant.2
    ∙ at_offset-whole (l s) (r s) (room s) (sound s) (k s) v.i (omega arith) few
    ∙ ap (λ (E : List Axis). at_offset E (k s)) s.rank_of-i.ensures.first
