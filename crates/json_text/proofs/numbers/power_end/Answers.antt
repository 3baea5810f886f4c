-- `json_text::numbers::power_end` meets its contract: with a sign and without.
use Rattle.std.proofs.Common.{arith}
use Rattle.std.proofs.lemmas.Option.{MatchOption-at_none}
use Rattle.paper.specs.Grammar.{these}
use Rattle.json_text.specs.Numbers.{power-signed, power-plain}
use Rattle.json_text.proofs.Read.{told_at}
use Rattle.json_text.proofs.numbers.power_end.Goals as goal
use Rattle.json_text.proofs.numbers.power_end.Goals.{in_default-via-in-Some+else-is_sign, in_default-via-in_default}

pub returns-in-Some : goal.returns-in-Some
returns-in-Some c =
    let b = c.in-Some.ensures.lookup.3 in
    power-signed _ _ b.0 (told_at (these "+-") c.args.s.now c.args.at _ _ _ (b.1 0) c.is_sign.ensures c.if-is_sign.true) _ c.digits_due.ensures

pub returns-in_default : goal.returns-in_default
returns-in_default c =
    elim c.in_default.branch [
      | in_default-via-in-Some+else-is_sign w ↦
          power-plain _ _ (λ h. told_at (these "+-") c.args.s.now c.args.at _ _ _ (w.in-Some.ensures.lookup.3.1 0) w.is_sign.ensures w.if-is_sign.false) _
          c.digits_due-in_default.ensures
      | in_default-via-in_default w ↦
          power-plain _ _ (λ h. absurd (omega (arith, MatchOption-at_none _ _ w.in_default.is c.get.ensures.lookup.3))) _ c.digits_due-in_default.ensures
    ]
