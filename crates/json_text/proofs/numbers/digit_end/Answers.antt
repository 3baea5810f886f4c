-- `json_text::numbers::digit_end` meets its contract: more digits, then what may follow them.
use Rattle.json_text.specs.Numbers.{digits-then}
use Rattle.json_text.proofs.numbers.digit_end.Goals as goal

pub returns : goal.returns
returns c = digits-then c.args.s.now c.args.at _ _ c.digits_end.ensures c.fraction_end.ensures
