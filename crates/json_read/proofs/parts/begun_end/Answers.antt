-- `json_read::parts::begun_end` meets its contract: each by its reader.
use Rattle.std.proofs.Common.{inl, inr}
use Rattle.json_levels.specs.declared.Begun.TheVariants.{Nothing, Comma, Bracket, Name, Text, Minus, Zero, Digit, True, False, Null}
use Rattle.json_read.specs.Parts.{begun-as, after_nothing, after-comma, after-bracket, after-name, after_text, after_minus, after-zero, after-digit}
use Rattle.json_read.specs.Parts.{after-true, after-false, after-null}
use Rattle.json_read.proofs.parts.begun_end.Goals as goal

pub returns-in-Nothing : goal.returns-in-Nothing
returns-in-Nothing c =
    elim c.in-Nothing.is [
      | inl e ↦ begun-as c.args.s.now _ Nothing c.args.at _ e (after_nothing c.args.s.now c.args.at c.requires)
      | inr o ↦
          elim o [
            | inl e ↦ begun-as c.args.s.now _ Comma c.args.at _ e (after-comma c.args.s.now c.args.at c.requires)
            | inr e ↦ begun-as c.args.s.now _ Bracket c.args.at _ e (after-bracket c.args.s.now c.args.at c.requires)
          ]
    ]

pub returns-in-Name : goal.returns-in-Name
returns-in-Name c = begun-as c.args.s.now _ Name c.args.at _ c.in-Name.is (after-name c.args.s.now c.args.at _ c.name_end.ensures)

pub returns-in-Text : goal.returns-in-Text
returns-in-Text c = begun-as c.args.s.now _ Text c.args.at _ c.in-Text.is (after_text c.args.s.now c.args.at _ c.chars_end.ensures)

pub returns-in-Minus : goal.returns-in-Minus
returns-in-Minus c = begun-as c.args.s.now _ Minus c.args.at _ c.in-Minus.is (after_minus c.args.s.now c.args.at _ c.minus_end.ensures)

pub returns-in-Zero : goal.returns-in-Zero
returns-in-Zero c = begun-as c.args.s.now _ Zero c.args.at _ c.in-Zero.is (after-zero c.args.s.now c.args.at _ c.zero_end.ensures)

pub returns-in-Digit : goal.returns-in-Digit
returns-in-Digit c = begun-as c.args.s.now _ Digit c.args.at _ c.in-Digit.is (after-digit c.args.s.now c.args.at _ c.digit_end.ensures)

pub returns-in-True : goal.returns-in-True
returns-in-True c = begun-as c.args.s.now _ True c.args.at _ c.in-True.is (after-true c.args.s.now c.args.at _ c.word_end.ensures)

pub returns-in-False : goal.returns-in-False
returns-in-False c = begun-as c.args.s.now _ False c.args.at _ c.in-False.is (after-false c.args.s.now c.args.at _ c.word_end-in-False.ensures)

pub returns-in-Null : goal.returns-in-Null
returns-in-Null c = begun-as c.args.s.now _ Null c.args.at _ c.in-Null.is (after-null c.args.s.now c.args.at _ c.word_end-in-Null.ensures)
