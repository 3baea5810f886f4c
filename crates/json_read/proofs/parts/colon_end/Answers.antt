-- `json_read::parts::colon_end` meets its contract: blanks, then a colon or not.
use Rattle.std.proofs.Common.{arith}
use Rattle.json_read.specs.Parts.{colon-missing, colon-other, colon-there}
use Rattle.json_read.proofs.parts.colon_end.Goals as goal
use Rattle.json_read.proofs.parts.colon_end.Goals.{then-i-s-via-then-i-s, then-i-s-via-else-i-s+then-s-i-ne58}

pub returns-then-i-s : goal.returns-then-i-s
returns-then-i-s c =
    let b = c.blanks_end-i.ensures in
    elim c.then-i-s.branch [
      | then-i-s-via-then-i-s w ↦ colon-missing _ _ _ b (omega arith)
      | then-i-s-via-else-i-s+then-s-i-ne58 w ↦ colon-other _ _ _ b (omega (arith, b.within)) w.if-s-i-ne58.true
    ]

pub returns : goal.returns
returns c = let b = c.blanks_end-i.ensures in colon-there _ _ _ b (omega (arith, b.within)) c.if-s-i-ne58.false
