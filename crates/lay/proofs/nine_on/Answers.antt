-- `lay::nine_on` meets its contract: mark and word are the nine bytes, which lie before `at`.
use Rattle.std.proofs.Common.{ℕ, ◌≡◌, sym, ap, ◌∙◌, List, ◌∷◌, arith, length, get_or, take, length-take-le}
use Rattle.paper.specs.Limits.{word_bytes, cell_bytes}
use Rattle.paper.specs.Numbers.{le_bytes}
use Rattle.laws.specs.Numbers.{Bytes, bytes_take}
use Rattle.laws.specs.Put.{put}
use Rattle.lay.specs.Lay.{part-take, nine-bytes}
use Rattle.lay.proofs.nine_on.Goals as goal
use Rattle.lay.proofs.nine_on.Goals.{After-slice_known-1}

-- what lies before `at`
module _ (c : After-slice_known-1) where
  abbrev d : List ℕ
  d = c.args.d.now

  abbrev at : ℕ
  at = c.args.at

  long : length (take at d) ≡ at
  long = length-take-le at d (omega (arith, c.requires))

  bytes : Bytes (take at d)
  bytes = bytes_take at d (λ i. omega (arith, c.slice_known-1.given i))

pub returns : goal.returns
unfolding le_bytes
returns c =
    let s = (goal.at.returns c).After-slice_known-1 in
    let i = c.args.from in
    c.put9.ensures
    ∙ ap (put c.args.d.now c.args.at)
    (ap (λ (n : ℕ). get_or (take (at s) (d s)) i 0 ∷ le_bytes word_bytes n) c.word-bits.ensures
    ∙ nine-bytes (take (at s) (d s)) i (bytes s) (omega (arith, long s, c.requires.0)) ∙ part-take (d s) (at s) i cell_bytes c.requires.0)

pub slice_bounds-done-end : goal.slice_bounds-done-end
slice_bounds-done-end c = omega (arith, c.requires)

pub slice_bounds-done-end-2 : goal.slice_bounds-done-end-2
slice_bounds-done-end-2 c = sym (long c)

pub bounds-done-from : goal.bounds-done-from
bounds-done-from c = omega (arith, long (goal.at.bounds-done-from c).After-slice_known-1, c.requires)

pub overflow_add-from : goal.overflow_add-from
overflow_add-from c = omega (arith, c.requires, c.well_formed)

pub word-bits-requires : goal.word-bits-requires
word-bits-requires c = omega (arith, long (goal.at.word-bits-requires c).After-slice_known-1, c.requires)

pub put9-requires : goal.put9-requires
put9-requires c = c.requires.1
