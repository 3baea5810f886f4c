-- `lay::copy_nine` meets its contract: mark and word are the nine bytes.
use Rattle.std.proofs.Common.{ℕ, ap, ◌∙◌, ◌∷◌, arith, get_or}
use Rattle.paper.specs.Limits.{word_bytes}
use Rattle.paper.specs.Numbers.{le_bytes}
use Rattle.laws.specs.Numbers.{Bytes}
use Rattle.laws.specs.Put.{put}
use Rattle.lay.specs.Lay.{nine-bytes}
use Rattle.lay.proofs.copy_nine.Goals as goal
use Rattle.lay.proofs.copy_nine.Goals.{After-shared_slice_known-1}

-- what is lent is bytes
bytes : (c : After-shared_slice_known-1) → Bytes c.args.s.now
bytes c i = omega (arith, c.shared_slice_known-1.given i)

pub returns : goal.returns
unfolding le_bytes
returns c =
    let bs = c.args.s.now in
    let i = c.args.from in
    c.put9.ensures
    ∙ ap (put c.args.d.now c.args.at)
    (ap (λ (n : ℕ). get_or bs i 0 ∷ le_bytes word_bytes n) c.word.ensures ∙ nine-bytes bs i (bytes (goal.at.returns c).After-shared_slice_known-1) c.requires.0)

pub bounds-s-from : goal.bounds-s-from
bounds-s-from c = omega (arith, c.requires)

pub overflow_add-from : goal.overflow_add-from
overflow_add-from c = omega (arith, c.requires, c.well_formed)

pub word-requires : goal.word-requires
word-requires c = omega (arith, c.requires)

pub put9-requires : goal.put9-requires
put9-requires c = c.requires.1
