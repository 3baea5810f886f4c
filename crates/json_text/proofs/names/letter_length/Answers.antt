-- `json_text::names::letter_length` meets its contract: as itself, escaped, or neither.
use Rattle.std.proofs.Common.{sym, ◌∙◌}
use Rattle.json_text.specs.Spelled.{letter-itself, letter-escaped, letter-none}
use Rattle.json_text.proofs.names.letter_length.Goals as goal

pub returns-then-begins_with : goal.returns-then-begins_with
returns-then-begins_with c = letter-itself _ _ _ c.requires (sym c.begins_with.ensures ∙ c.if-begins_with.true)

pub returns-then-begins_with-2 : goal.returns-then-begins_with-2
returns-then-begins_with-2 c =
    letter-escaped _ _ _ c.requires (sym c.begins_with.ensures ∙ c.if-begins_with.false)
    (sym c.begins_with-2.ensures ∙ c.if-begins_with-2.true)

pub returns : goal.returns
returns c =
    letter-none _ _ _ c.requires (sym c.begins_with.ensures ∙ c.if-begins_with.false)
    (sym c.begins_with-2.ensures ∙ c.if-begins_with-2.false)
