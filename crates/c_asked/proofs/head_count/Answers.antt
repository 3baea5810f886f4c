-- `c_asked::head_count` meets its contract.
use Rattle.std.proofs.Common.{ap, ◌∙◌}
use Rattle.paper.specs.declared.Sizes.{Sizes}
use Rattle.c_asked.specs.Asked.{head_count}
use Rattle.c_asked.specs.Heads.{count-told, count-over}
use Rattle.c_asked.proofs.head_count.Goals as goal

pub returns-then-told-z : goal.returns-then-told-z
returns-then-told-z c =
    let n = c.args.told in
    count-told c.sizes-z.result n c.if-told-z.true ∙ ap (λ (x : Sizes). head_count x n) c.sizes-z.ensures

pub returns : goal.returns
returns c =
    let n = c.args.told in
    count-over c.sizes-z.result n c.if-told-z.false ∙ ap (λ (x : Sizes). head_count x n) c.sizes-z.ensures
