-- `step::unused::unused_zero` meets its contract: one byte, the other, the detail.
use Rattle.std.proofs.Common.{◌∙◌, ap, sym, arith}
use Rattle.laws.specs.Sizes.{fits}
use Rattle.paper.specs.declared.Sizes.{Sizes}
use Rattle.paper.specs.Numbers.{part, zeros}
use Rattle.step.specs.Using.{unused_of}
use borrow.Author.Tests.{not-true, not-false}
use Rattle.laws.specs.Tests.{and_no, and_yes}
use Rattle.step.proofs.unused.unused_zero.Goals as goal

pub returns-then-not-used_or_zero : goal.returns-then-not-used_or_zero
returns-then-not-used_or_zero c = and_no _ _ (sym c.used_or_zero.ensures ∙ not-true _ c.if-not-used_or_zero.true-raw)

pub returns-then-not-used_or_zero-2 : goal.returns-then-not-used_or_zero-2
returns-then-not-used_or_zero-2 c =
    and_no _ _ (sym c.used_or_zero-2.ensures ∙ not-true _ c.if-not-used_or_zero-2.true-raw)
    ∙ and_yes _ _ (sym c.used_or_zero.ensures ∙ not-false _ c.if-not-used_or_zero.false-raw)

pub returns : goal.returns
returns c =
    let e = ap (λ (z : Sizes). zeros (unused_of c.args.used (part c.args.step.at z.detail c.args.s.now)))
    c.sizes-z.ensures in
    c.detail_zero.ensures ∙ e ∙ and_yes _ _ (sym c.used_or_zero-2.ensures ∙ not-false _ c.if-not-used_or_zero-2.false-raw)
    ∙ and_yes _ _ (sym c.used_or_zero.ensures ∙ not-false _ c.if-not-used_or_zero.false-raw)

pub detail_zero-requires : goal.detail_zero-requires
detail_zero-requires c =
    let v = c.args.step.version in
    let f = fits v in
    rw c.sizes-z.ensures (record { from_le_detail = (c.requires.from_bound, omega (arith, f.scalar)); holds = c.requires.holds })
