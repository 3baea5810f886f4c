-- `json_text::cells::int_at` meets its contract: with a minus, or without.
use Rattle.std.proofs.Common.{[], sym, ◌∙◌}
use Rattle.json_text.specs.Words.{a-byte-there}
use Rattle.json_text.specs.Whole.{with-minus, without-minus}
use Rattle.json_text.proofs.cells.int_at.Goals as goal

pub sized_at-requires : goal.sized_at-requires
sized_at-requires c =
    a-byte-there c.args.s.now c.args.at 45 [] (sym c.begins_with.ensures ∙ c.if-begins_with.true)

pub returns-then-begins_with : goal.returns-then-begins_with
returns-then-begins_with c =
    let b = c.begins_with in
    c.sized_at.ensures ∙ with-minus c.args.s.now c.args.at (sym b.ensures ∙ c.if-begins_with.true)

pub returns : goal.returns
returns c =
    let b = c.begins_with in
    c.sized_at-2.ensures ∙ without-minus c.args.s.now c.args.at (sym b.ensures ∙ c.if-begins_with.false)
