-- `json_text::names::is_data` meets its contract: letter after letter, and a quote.
use Rattle.std.proofs.Common.{◌∙◌}
use Rattle.json_text.specs.Spelled.{spells-last}
use Rattle.json_text.proofs.names.is_data.Goals as goal

pub returns : goal.returns
returns c = c.begins_with.ensures ∙ spells-last _ _ _ _ _ c.loop-letter.invariant c.loop-letter-test.false
