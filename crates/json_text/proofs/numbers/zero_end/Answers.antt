-- `json_text::numbers::zero_end` meets its contract: a fraction may follow.
use Rattle.paper.specs.Grammar.{after_zero}
use Rattle.json_text.specs.Numbers.{zero-fractioned}
use Rattle.json_text.proofs.numbers.zero_end.Goals as goal

pub returns : goal.returns
returns c = c.fraction_end.ensures after_zero (zero-fractioned c.args.s.now c.args.at)
