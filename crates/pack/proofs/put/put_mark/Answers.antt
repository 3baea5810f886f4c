-- `pack::put::put_mark` meets its contract: six bytes, stored one by one.
use Rattle.std.proofs.Common.{ap, ◌∙◌, [], ◌∷◌, arith, length-set}
use Rattle.cell.proofs.Runs.{stores_at-spliced}
use Rattle.laws.specs.Put.{put}
use Rattle.pack.specs.Put.{mark-bytes}
use Rattle.pack.proofs.put.put_mark.Goals as goal

pub returns : goal.returns
returns c =
    let z = c.sizes-z.result in
    stores_at-spliced (82 ∷ 77 ∷ 65 ∷ z.version ∷ 0 ∷ c.args.count ∷ []) c.args.d.now 0 c.requires
    ∙ ap (put c.args.d.now 0) (mark-bytes c.args.v z c.sizes-z.ensures c.args.count)

pub bounds-d-1 : goal.bounds-d-1
bounds-d-1 c = simp length-set (omega arith)

pub bounds-d-2 : goal.bounds-d-2
bounds-d-2 c = simp length-set (omega arith)

pub bounds-d-3 : goal.bounds-d-3
bounds-d-3 c = simp length-set (omega arith)

pub bounds-d-4 : goal.bounds-d-4
bounds-d-4 c = simp length-set (omega arith)
