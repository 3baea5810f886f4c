-- `json_due::due_next` meets its contract: by the positions that the innermost level has left.
use Rattle.std.proofs.Common.{rules, ◌≡◌, refl, arith, length}
use Rattle.paper.specs.Limits.{most_axes}
use Rattle.json_due.specs.Due.{next-nothing, next-closing, next-value, next-opening}
use Rattle.json_due.proofs.due_next.Goals as goal
use Rattle.json_due.proofs.due_next.Goals.{Start}

six : (c : Start) → length c.args.left ≡ most_axes
six c = search rules

pub returns-then-level-eq0 : goal.returns-then-level-eq0
returns-then-level-eq0 c = λ E q. next-nothing E c.args.left (six (goal.at.returns-then-level-eq0 c).Start) c.args.level c.if-level-eq0.true

pub returns-then-n-eq0 : goal.returns-then-n-eq0
returns-then-n-eq0 c = λ E q. next-closing E c.args.left (six (goal.at.returns-then-n-eq0 c).Start) c.args.level c.if-level-eq0.false (omega (arith, q, c.requires.1)) c.if-n-eq0.true

pub returns-then-level-rank : goal.returns-then-level-rank
returns-then-level-rank c = λ E q. next-value E c.args.left (six (goal.at.returns-then-level-rank c).Start) c.args.level c.if-level-eq0.false (omega (arith, q, c.requires.1)) _ refl c.if-n-eq0.false _ refl (omega (arith, six (goal.at.returns-then-level-rank c).Start, c.requires.0, c.requires.1, c.if-level-eq0.false)) (omega (arith, q, c.if-level-rank.true))

pub returns : goal.returns
returns c = λ E q. next-opening E c.args.left (six (goal.at.returns c).Start) c.args.level c.if-level-eq0.false (omega (arith, q, c.requires.1)) _ refl c.if-n-eq0.false _ refl (omega (arith, six (goal.at.returns c).Start, c.requires.0, c.requires.1, c.if-level-eq0.false)) (λ h. c.if-level-rank.false (omega (arith, q, h)))
