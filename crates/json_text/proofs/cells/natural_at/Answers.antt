-- `json_text::cells::natural_at` meets its contract: no digit; digits to the text's end; or by the byte behind them.
use Rattle.std.proofs.lemmas.Option.{MatchOption-at_none}
use Rattle.paper.specs.Grammar.{these}
use Rattle.json_text.specs.Whole.{no-digits, not-whole, is_whole, whole-at-end}
use Rattle.json_text.proofs.Read.{told_at}
use Rattle.json_text.proofs.cells.natural_at.Goals as goal

pub returns-then-d-at : goal.returns-then-d-at
returns-then-d-at c = no-digits _ _ _ c.digits_at-d.ensures c.if-d-at.true

pub returns-in-Some : goal.returns-in-Some
returns-in-Some c =
    not-whole _ _ _ c.digits_at-d.ensures c.if-d-at.false
    (told_at (these ".eE") c.args.s.now c.digits_at-d.result.end _ _ _ (c.in-Some.ensures.lookup.3.1 0) c.goes_on.ensures c.if-goes_on.true)

pub returns-in_default : goal.returns-in_default
returns-in_default c =
    is_whole _ _ _ c.digits_at-d.ensures c.if-d-at.false
    (told_at (these ".eE") c.args.s.now c.digits_at-d.result.end _ _ _ (c.in-Some.ensures.lookup.3.1 0) c.goes_on.ensures c.if-goes_on.false)

pub returns-in_default-2 : goal.returns-in_default-2
returns-in_default-2 c =
    whole-at-end _ _ _ c.digits_at-d.ensures c.if-d-at.false (MatchOption-at_none _ _ c.in_default.is c.get.ensures.lookup.3)
