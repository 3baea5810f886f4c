-- `pack::put::put_arrays` meets its contract: the arrays left, put where the loop stands, are the whole put at the start.
use Rattle.std.proofs.Common.{ℕ, ◌+◌, ◌≤◌, ◌≡◌, ◌∷◌, add-one, arith, rules, length, get_or, take, drop}
use Rattle.laws.specs.Loops.{length-mapped, length-first, drop-first-cons}
use Rattle.paper.specs.declared.Form.{Form}
use Rattle.paper.specs.Limits.{most_arrays}
use Rattle.pack.specs.Laying.{laying-start, laying-room, laying-more, laying-end}
use Rattle.pack.proofs.put.put_arrays.Goals as goal
use Rattle.pack.proofs.put.put_arrays.Goals.{After-put_array-ends, In-loop-i, Start}

module _ (c : Start) where
  full : length c.args.forms ≡ most_arrays
  full = search (rules, length-mapped)

  room : c.args.count ≤ length c.args.forms
  room = omega (arith, full, c.requires.few)

  first : length (take c.args.count c.args.forms) ≡ c.args.count
  first = length-first c.args.forms c.args.count room

-- the form that the loop is at
module _ (c : In-loop-i) where
  abbrev s : Start
  s = c.before.before.before.before.before

  abbrev i : ℕ
  i = c.loop-i.i

  next : (f : Form) → drop i (take s.args.count s.args.forms)
      ≡ get_or s.args.forms i f ∷ drop (i + 1) (take s.args.count s.args.forms)
  next f = rw add-one (drop-first-cons s.args.forms s.args.count (room s) i f c.loop-i-test.true)

pub loop-i-init : goal.loop-i-init
loop-i-init c = laying-start _ _ c.args.cells.now c.args.d.now c.requires.ready c.requires.room

-- an array is written
module _ (c : After-put_array-ends) where
  abbrev turn : In-loop-i
  turn = record { before = c.before.before.before.before; type_inv = record { cells = c.shared_slice_known-1.given } }

pub loop-i-preserved : goal.loop-i-preserved
loop-i-preserved c =
    let t = turn (goal.at.loop-i-preserved c).After-put_array-ends in
    laying-more t.loop-i.invariant (next t _) (omega (arith, first (s t))) c.put_array-ends.ensures

pub offset_bounds-forms-i : goal.offset_bounds-forms-i
offset_bounds-forms-i c = omega (arith, (s c).requires.few)

pub bounds-forms-i : goal.bounds-forms-i
bounds-forms-i c = omega (arith, (s c).requires.few)

pub put_array-ends-requires : goal.put_array-ends-requires
put_array-ends-requires c = laying-room c.loop-i.invariant (next (goal.at.put_array-ends-requires c).In-loop-i _)

pub shape_of-d : goal.shape_of-d
shape_of-d c = c.loop-i.invariant.long

pub returns : goal.returns
returns c = laying-end c.loop-i.invariant (omega (arith, first (goal.at.returns c).Start))
