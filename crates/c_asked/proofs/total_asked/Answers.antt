-- `c_asked::total_asked` meets its contract: each number is its total's, any other is none's.
use Rattle.std.proofs.Common.{refl, ◌∙◌}
use Rattle.c_asked.specs.Pieces.{total-at, total-none}
use Rattle.c_asked.proofs.total_asked.Goals as goal

pub returns-in_default : goal.returns-in_default
returns-in_default c =
    let a = c.args in
    let r = c.in_default.in_default-own.rest in
    c.no_total.ensures
    ∙ total-none a.s.now a.k a.which r.0.0.0.0.0.1 r.0.0.0.0.1 r.0.0.0.1 r.0.0.1 r.0.1 r.1

pub returns-in-1 : goal.returns-in-1
returns-in-1 c = total-at _ _ c.total.ensures c.in-1.is refl

pub returns-in-2 : goal.returns-in-2
returns-in-2 c = total-at _ _ c.total-in-2.ensures c.in-2.is refl

pub returns-in-3 : goal.returns-in-3
returns-in-3 c = total-at _ _ c.total-in-3.ensures c.in-3.is refl

pub returns-in-4 : goal.returns-in-4
returns-in-4 c = total-at _ _ c.total-in-4.ensures c.in-4.is refl

pub returns-in-5 : goal.returns-in-5
returns-in-5 c = total-at _ _ c.total-in-5.ensures c.in-5.is refl

pub returns-in-6 : goal.returns-in-6
returns-in-6 c = total-at _ _ c.total-in-6.ensures c.in-6.is refl
