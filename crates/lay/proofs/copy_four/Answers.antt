-- `lay::copy_four` meets its contract: cell after cell, from its source to its place.
use Rattle.std.proofs.Common.{ℕ, ◌+◌, ◌*◌, ◌≤◌, ◌≡◌, refl, List, arith}
use Rattle.paper.specs.Limits.{cell_bytes}
use Rattle.paper.specs.Numbers.{part}
use Rattle.laws.specs.Put.{put, copied}
use Rattle.lay.proofs.copy_four.Goals as goal
use Rattle.lay.proofs.copy_four.Goals.{Start}

-- one cell more
module _ (c : Start) (n : ℕ) (h : n + cell_bytes ≤ 4 * cell_bytes) {d₁ d₂ : List ℕ} where
  more : d₁ ≡ put c.args.d.now c.args.at (part c.args.from n c.args.s.now)
      → d₂ ≡ put d₁ (c.args.at + n) (part (c.args.from + n) cell_bytes c.args.s.now)
      → d₂ ≡ put c.args.d.now c.args.at (part c.args.from (n + cell_bytes) c.args.s.now)
  more =
      copied c.args.s.now c.args.from c.args.d.now c.args.at n n cell_bytes (n + cell_bytes) refl
      (omega arith) (omega arith) (omega (arith, c.requires)) (omega (arith, c.requires))

pub returns : goal.returns
returns c =
    let s = (goal.at.returns c).Start in
    let two = more s cell_bytes (omega arith) c.copy_nine.ensures c.copy_nine-2.ensures in
    let three = more s (2 * cell_bytes) (omega arith) two c.copy_nine-3.ensures in
    more s (3 * cell_bytes) (omega arith) three c.copy_nine-4.ensures
