-- `operators::operators::absolute` meets its contract: each arm is given which cell c is. Assumes nothing.
use Rattle.std.specs.Prelude.{Ok}
use Rattle.std.proofs.Common.{rules, sym, ap, ◌∙◌, to_z-of_z, w64, SFits}
use borrow.Author.Rules.{sfits_of}
use Rattle.operators.proofs.Arms.{signed-last}
use Rattle.paper.specs.Operators.{single_cell, signed}
use Rattle.paper.specs.declared.Cell.TheVariants.{Float}
use Rattle.paper.specs.declared.SingleOp.TheVariants.{Absolute}
use Rattle.operators.proofs.operators.absolute.Goals as goal

pub returns-in-Int : goal.returns-in-Int
unfolding single_cell signed
returns-in-Int c =
    let k = c in
    let fx : SFits w64 k.in-Int.x = sfits_of (search rules) in
    simp to_z-of_z at c.int_abs.ensures ∙ sym (ap (single_cell Absolute) k.in-Int.is)

pub returns-in-Float : goal.returns-in-Float
unfolding single_cell signed
returns-in-Float c = ap (λ y. Ok (Float y)) c.float_abs.ensures ∙ sym (ap (single_cell Absolute) c.in-Float.is)

pub returns-in_default : goal.returns-in_default
unfolding single_cell signed
returns-in_default c = signed-last _ _ c.args.c c.in_default.in_default-own.keys3
