-- `json_write::cell_length` meets its contract, case by case.
use Rattle.std.proofs.Common.{◌∙◌, w64, SFits, to_z-of_z, rules}
use borrow.Author.Rules.{sfits_of}
use Rattle.paper.specs.Json.{cell_text}
use Rattle.json_write.proofs.cell_length.Goals as goal

pub returns-in-Empty : goal.returns-in-Empty
unfolding cell_text
returns-in-Empty c = rw c.in-Empty.is

pub returns-in-Int : goal.returns-in-Int
unfolding cell_text
returns-in-Int c =
    let fits : SFits w64 c.in-Int.z = sfits_of (search rules) in
    rw c.in-Int.is (c.int_length.ensures ∙ rw (to_z-of_z fits))

pub returns-in-Float : goal.returns-in-Float
unfolding cell_text
returns-in-Float c = rw c.in-Float.is

pub returns-then-b : goal.returns-then-b
unfolding cell_text
returns-then-b c = rw (c.in-Truth.is, c.if-b.true)

pub returns-in-Truth : goal.returns-in-Truth
unfolding cell_text
returns-in-Truth c = rw (c.in-Truth.is, c.if-b.false)
