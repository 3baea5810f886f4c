-- `json_text::numbers::minus_end` meets its contract: by the digit after the minus.
use Rattle.std.proofs.Common.{sym, ◌∙◌}
use Rattle.std.proofs.lemmas.Option.{MatchOption-at_none}
use Rattle.paper.specs.Grammar.{digit}
use Rattle.json_text.specs.Numbers.{minus-missing, minus-zero, minus-digit, minus-none}
use Rattle.json_text.proofs.Read.{told_at}
use Rattle.json_text.proofs.numbers.minus_end.Goals as goal

pub returns-in-Some-eq48 : goal.returns-in-Some-eq48
returns-in-Some-eq48 c =
    let b = c.in-Some-eq48.ensures.lookup.3 in
    minus-zero _ _ b.0 (sym (b.1 0) ∙ c.in-Some-eq48.field-0-test) _ c.zero_end.ensures

pub returns-in-Some : goal.returns-in-Some
returns-in-Some c =
    let b = c.in-Some.ensures.lookup.3 in
    minus-digit _ _ b.0 (λ e. c.in-Some.b-test.1 (b.1 0 ∙ e)) (told_at digit c.args.s.now c.args.at _ _ _ (b.1 0) c.is_digit.ensures c.if-is_digit.true) _
    c.digit_end.ensures

pub returns-in_default : goal.returns-in_default
returns-in_default c =
    let b = c.in-Some.ensures.lookup.3 in
    minus-none _ _ b.0 (told_at digit c.args.s.now c.args.at _ _ _ (b.1 0) c.is_digit.ensures c.if-is_digit.false)

pub returns-in_default-2 : goal.returns-in_default-2
returns-in_default-2 c = minus-missing _ _ c.requires (MatchOption-at_none _ _ c.in_default.is c.get.ensures.lookup.3)
