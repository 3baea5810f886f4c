-- `cell::bytes::from_word` meets its contract: each arm is a case of `filled`. Assumes nothing.
use Rattle.std.specs.Prelude.{Some}
use Rattle.std.proofs.Common.{ℤ, sym, ap, ◌∙◌, w64}
use mir.ValLaws.{to_z-of_z}
use Rattle.paper.specs.declared.Cell.TheVariants.{Int}
use Rattle.cell.proofs.Finite.{no-nan-bits}
use Rattle.cell.proofs.Cases.{filled-int, filled-float, filled-float-bad, filled-truth, filled-truth-bad}
use Rattle.cell.proofs.bytes.from_word.Goals as goal

pub float_from_bits-result : goal.float_from_bits-result
float_from_bits-result c = no-nan-bits c.args.n c.if-n-lt9218868437227405312.true

pub returns-in-1 : goal.returns-in-1
returns-in-1 c =
    ap (λ (z : ℤ). Some (Int z)) (to_z-of_z w64 c.signed.result (record { sfits = c.signed.type_inv }) ∙ c.signed.ensures)
    ∙ sym (filled-int _ c.args.n c.in-1.is)

pub returns-then-n-lt9218868437227405312 : goal.returns-then-n-lt9218868437227405312
returns-then-n-lt9218868437227405312 c = sym (filled-float _ c.args.n c.in-2.is c.if-n-lt9218868437227405312.true)

pub returns-else-n-lt9218868437227405312 : goal.returns-else-n-lt9218868437227405312
returns-else-n-lt9218868437227405312 c = sym (filled-float-bad _ c.args.n c.in-2.is c.if-n-lt9218868437227405312.false)

pub returns-then-n-le1 : goal.returns-then-n-le1
returns-then-n-le1 c =
    let r = c.in_default.in_default-own.rest in
    sym (filled-truth _ c.args.n r.0.1 r.1 c.if-n-le1.true)

pub returns-else-n-le1 : goal.returns-else-n-le1
returns-else-n-le1 c =
    let r = c.in_default.in_default-own.rest in
    sym (filled-truth-bad _ c.args.n r.0.1 r.1 c.if-n-le1.false)
