-- `cell::sums::above` meets its contract. Assumes nothing.
use Rattle.std.proofs.Common.{ℕ, ◌+◌, ◌%◌, ◌^◌, pos, ◌+ℤ◌, ◌∙◌, arith, to_z-of_z, w64, to_z}
use borrow.Author.Rules.{sfits_of}
use Rattle.cell.proofs.Wrap.{to_z-parts}
use Rattle.laws.specs.Parts.{add_parts, parts-eq}
use Rattle.paper.specs.Limits.{smallest_int}
use Rattle.cell.proofs.sums.above.Goals as goal

pub returns : goal.returns
returns c =
    let x = c.args.x in
    let n : ℕ = (x + 2 ^ 63) % 2 ^ 64 in
    to_z-of_z {w = w64} (sfits_of c.cast_signed.type_inv)
    ∙ c.cast_signed.ensures
    ∙ parts-eq (to_z w64 n) (pos x +ℤ smallest_int) (omega (arith, to_z-parts n (omega arith), add_parts (pos x) smallest_int))
