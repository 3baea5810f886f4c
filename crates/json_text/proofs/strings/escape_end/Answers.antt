-- `json_text::strings::escape_end` meets its contract: one of the bytes that stand alone, a `u` and its digits, or another.
use Rattle.std.proofs.Common.{ℕ, List, [], ◌∷◌, refl}
use Rattle.paper.specs.Grammar.{among, these}
use Rattle.json_text.specs.Bytes.{among-keys, among-others}
use Rattle.json_text.specs.Parts.{part-missing}
use Rattle.json_text.specs.Strings.{alone, escape-alone, escape-hex, escape-refused}
use Rattle.json_text.proofs.strings.escape_end.Goals as goal

-- those that stand alone, in order
abbrev keys : List ℕ
keys = 0x22 ∷ 0x2f ∷ 0x5c ∷ 0x62 ∷ 0x66 ∷ 0x6e ∷ 0x72 ∷ 0x74 ∷ []

pub returns-then-s-at : goal.returns-then-s-at
returns-then-s-at c = part-missing _ _ _ c.requires c.if-s-at.true

pub returns-in-34 : goal.returns-in-34
unfolding among
returns-in-34 c = escape-alone _ _ c.if-s-at.false (among-keys alone keys _ refl c.in-34.is)

pub returns-in-117 : goal.returns-in-117
returns-in-117 c = escape-hex _ _ c.if-s-at.false c.in-117.is _ c.hex_end.ensures

pub returns-in_default : goal.returns-in_default
returns-in_default c =
    escape-refused _ _ c.if-s-at.false (among-others keys _ c.in_default.in_default-own.rest.0.1 alone refl)
    (among-others (0x75 ∷ []) _ c.in_default.in_default-own.rest.1 (these "u") refl)
