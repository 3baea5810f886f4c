-- `json_text::cells::int_of` meets its contract: in range by its bits, else no INT.
use Rattle.std.proofs.Common.{sym, ◌∙◌, arith, w64, rules}
use mir.ValLaws.{to_z-of_z}
use Rattle.json_text.specs.Whole.{int-plus, int-minus, over-int, under-int, as-minus, as-plus}
use Rattle.json_text.proofs.cells.int_of.Goals as goal

pub returns-then-n-le9223372036854775808 : goal.returns-then-n-le9223372036854775808
returns-then-n-le9223372036854775808 c =
    let w = c.wrapping_sub_u64 in
    int-minus c.args.n w.result _ (omega (arith, c.if-n-le9223372036854775808.true)) (search rules) w.ensures.value
    (to_z-of_z w64 c.signed.result (record { sfits = c.signed.type_inv }) ∙ c.signed.ensures)
    ∙ as-minus c.args.minus c.args.n c.if-minus.true

pub returns-then-minus : goal.returns-then-minus
returns-then-minus c =
    sym (under-int c.args.n (omega (arith, c.if-n-le9223372036854775808.false))) ∙ as-minus c.args.minus c.args.n c.if-minus.true

pub returns-then-n-le9223372036854775807 : goal.returns-then-n-le9223372036854775807
returns-then-n-le9223372036854775807 c =
    int-plus c.args.n _ (omega (arith, c.if-n-le9223372036854775807.true))
    (to_z-of_z w64 c.signed-then-n-le9223372036854775807.result (record { sfits = c.signed-then-n-le9223372036854775807.type_inv }) ∙ c.signed-then-n-le9223372036854775807.ensures)
    ∙ as-plus c.args.minus c.args.n c.if-minus.false

pub returns : goal.returns
returns c =
    sym (over-int c.args.n (omega (arith, c.if-n-le9223372036854775807.false))) ∙ as-plus c.args.minus c.args.n c.if-minus.false
