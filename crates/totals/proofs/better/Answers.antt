-- `totals::better` meets its contract.
use Rattle.std.proofs.Common.{◌≡◌, sym, ◌∙◌, false}
use Rattle.paper.specs.Operators.{empty_cell}
use Rattle.totals.proofs.better.Goals as goal
use Rattle.totals.proofs.better.Goals.{Else-is_empty, Else-is_empty-2}

-- c is filled
module _ (c : Else-is_empty) where
  filled : empty_cell c.args.c ≡ false
  filled = sym c.is_empty.ensures ∙ c.if-is_empty.false

-- and b
module _ (c : Else-is_empty-2) where
  abbrev one : Else-is_empty
  one = c.before.before

  both : empty_cell one.args.b ≡ false
  both = sym c.is_empty-2.ensures ∙ c.if-is_empty-2.false

pub returns-then-is_empty : goal.returns-then-is_empty
returns-then-is_empty c = rw (sym c.is_empty.ensures ∙ c.if-is_empty.true)

pub returns-then-is_empty-2 : goal.returns-then-is_empty-2
returns-then-is_empty-2 c = rw (filled (goal.at.returns-then-is_empty-2 c).Else-is_empty, sym c.is_empty-2.ensures ∙ c.if-is_empty-2.true)

pub returns-then-beats : goal.returns-then-beats
returns-then-beats c =
    let s = (goal.at.returns-then-beats c).Else-is_empty-2 in
    rw (filled (one s), both s, sym c.beats.ensures ∙ c.if-beats.true)

pub returns : goal.returns
returns c =
    let s = (goal.at.returns c).Else-is_empty-2 in
    rw (filled (one s), both s, sym c.beats.ensures ∙ c.if-beats.false)
