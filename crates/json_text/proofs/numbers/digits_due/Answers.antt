-- `json_text::numbers::digits_due` meets its contract: a digit there, another byte, or none.
use Rattle.std.proofs.lemmas.Option.{MatchOption-at_none}
use Rattle.paper.specs.Grammar.{digit}
use Rattle.json_text.specs.Numbers.{digits-missing, digits-none, digits-some}
use Rattle.json_text.proofs.Read.{told_at}
use Rattle.json_text.proofs.numbers.digits_due.Goals as goal

pub returns-in-Some : goal.returns-in-Some
returns-in-Some c =
    let b = c.in-Some.ensures.lookup.3 in
    digits-some _ _ b.0 (told_at digit c.args.s.now c.args.at _ _ _ (b.1 0) c.is_digit.ensures c.if-is_digit.true) _ c.digits_end.ensures

pub returns-in_default : goal.returns-in_default
returns-in_default c =
    let b = c.in-Some.ensures.lookup.3 in
    digits-none _ _ b.0 (told_at digit c.args.s.now c.args.at _ _ _ (b.1 0) c.is_digit.ensures c.if-is_digit.false)

pub returns-in_default-2 : goal.returns-in_default-2
returns-in_default-2 c = digits-missing _ _ c.requires (MatchOption-at_none _ _ c.in_default.is c.get.ensures.lookup.3)
