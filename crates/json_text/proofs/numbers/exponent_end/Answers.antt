-- `json_text::numbers::exponent_end` meets its contract: an exponent or none.
use Rattle.std.proofs.lemmas.Option.{MatchOption-at_none}
use Rattle.paper.specs.Grammar.{these}
use Rattle.json_text.specs.Numbers.{no-power-end, no_power, with-power}
use Rattle.json_text.proofs.Read.{told_at}
use Rattle.json_text.proofs.numbers.exponent_end.Goals as goal

pub returns-in-Some : goal.returns-in-Some
returns-in-Some c =
    λ d g. let b = c.in-Some.ensures.lookup.3 in
    with-power _ _ d g b.0 (told_at (these "eE") c.args.s.now c.args.at _ _ _ (b.1 0) c.is_e.ensures c.if-is_e.true) _ c.power_end.ensures

pub returns-in_default : goal.returns-in_default
returns-in_default c =
    λ d g. let b = c.in-Some.ensures.lookup.3 in
    no_power _ _ d g b.0 (told_at (these "eE") c.args.s.now c.args.at _ _ _ (b.1 0) c.is_e.ensures c.if-is_e.false)

pub returns-in_default-2 : goal.returns-in_default-2
returns-in_default-2 c =
    λ d g. no-power-end _ _ d g c.requires (MatchOption-at_none _ _ c.in_default.is c.get.ensures.lookup.3)
