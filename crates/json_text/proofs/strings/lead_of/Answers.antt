-- `json_text::strings::lead_of` meets its contract: between the table's ends all bytes choose alike.
use Rattle.std.proofs.Common.{refl, arith}
use Rattle.paper.specs.Grammar.{rules}
use Rattle.json_text.specs.Parts.{chosen-chosen_by}
use Rattle.json_text.specs.Strings.{wide, leading, spanned}
use Rattle.json_text.proofs.strings.lead_of.Goals as goal

pub returns-in-224 : goal.returns-in-224
unfolding wide rules leading spanned
returns-in-224 c = chosen-chosen_by 0xe0 0xe0 _ (omega arith) (omega arith) wide _ refl

pub returns-in-237 : goal.returns-in-237
unfolding wide rules leading spanned
returns-in-237 c = chosen-chosen_by 0xed 0xed _ (omega arith) (omega arith) wide _ refl

pub returns-in-240 : goal.returns-in-240
unfolding wide rules leading spanned
returns-in-240 c = chosen-chosen_by 0xf0 0xf0 _ (omega arith) (omega arith) wide _ refl

pub returns-in-244 : goal.returns-in-244
unfolding wide rules leading spanned
returns-in-244 c = chosen-chosen_by 0xf4 0xf4 _ (omega arith) (omega arith) wide _ refl

pub returns-in-194-to-223 : goal.returns-in-194-to-223
unfolding wide rules leading spanned
returns-in-194-to-223 c = chosen-chosen_by 0xc2 0xdf _ (omega arith) (omega arith) wide _ refl

pub returns-in-225-to-236 : goal.returns-in-225-to-236
unfolding wide rules leading spanned
returns-in-225-to-236 c = chosen-chosen_by 0xe1 0xec _ (omega arith) (omega arith) wide _ refl

pub returns-in-238-to-239 : goal.returns-in-238-to-239
unfolding wide rules leading spanned
returns-in-238-to-239 c = chosen-chosen_by 0xee 0xef _ (omega arith) (omega arith) wide _ refl

pub returns-in-241-to-243 : goal.returns-in-241-to-243
unfolding wide rules leading spanned
returns-in-241-to-243 c = chosen-chosen_by 0xf1 0xf3 _ (omega arith) (omega arith) wide _ refl

pub returns-in_default : goal.returns-in_default
unfolding wide rules leading spanned
returns-in_default c = chosen-chosen_by 0 0xc1 _ (omega arith) (omega arith) wide _ refl

pub returns-in_default-2 : goal.returns-in_default-2
unfolding wide rules leading spanned
returns-in_default-2 c = chosen-chosen_by 0xf5 0xff _ (omega arith) (omega arith) wide _ refl
