-- `c_asked::side_form` meets its contract: no form for another length, else that of the head.
use Rattle.std.proofs.Common.{ap, sym, ◌∙◌, arith}
use Rattle.paper.specs.declared.Head.{Head}
use Rattle.paper.specs.Limits.{sizes_of}
use Rattle.c_asked.specs.Heads.{side-other, side-head}
use Rattle.c_asked.proofs.side_form.Goals as goal

pub returns-then-head-whole_head : goal.returns-then-head-whole_head
returns-then-head-whole_head c =
    let a = c.args in
    ap (λ (h : Head). h.form) c.no_head-none.ensures
    ∙ side-other (sizes_of a.v) a.head.now (λ e. c.if-head-whole_head.true (e ∙ sym c.whole_head.ensures.0))

pub returns : goal.returns
returns c =
    let a = c.args in
    c.form_at.ensures ∙ side-head (sizes_of a.v) a.head.now (c.if-head-whole_head.false ∙ c.whole_head.ensures.0)

pub form_at-requires : goal.form_at-requires
form_at-requires c = omega (arith, c.if-head-whole_head.false, c.whole_head.ensures.0)
