-- `json_text::strings::other_end` meets its contract: an escape, several bytes, or no character.
use Rattle.std.proofs.Common.{[], ◌∷◌, ◌∙◌}
use Rattle.paper.specs.Grammar.{escape}
use Rattle.json_text.specs.Strings.{leading, pass-missing, pass-refused, pass-then, chosen-escape, chosen-wide}
use Rattle.json_text.proofs.strings.other_end.Goals as goal

pub returns-then-s-at : goal.returns-then-s-at
returns-then-s-at c = pass-missing _ _ c.requires c.if-s-at.true

pub returns-then-s-at-eq92 : goal.returns-then-s-at-eq92
returns-then-s-at-eq92 c =
    pass-then _ _ c.if-s-at.false (escape ∷ []) _ c.escape_end.ensures (λ o. chosen-escape _ c.if-s-at-eq92.true)

pub returns-in-Some : goal.returns-in-Some
unfolding leading
returns-in-Some c =
    pass-then _ _ c.if-s-at.false _ _ c.further_end.ensures (λ o. chosen-wide _ o.0 o.1 c.if-s-at-eq92.false ∙ c.in-Some.ensures)

pub returns-in-None : goal.returns-in-None
unfolding leading
returns-in-None c = pass-refused _ _ c.if-s-at.false (λ o. chosen-wide _ o.0 o.1 c.if-s-at-eq92.false ∙ c.in-None.ensures)
