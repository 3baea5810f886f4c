-- `judged::look_at` meets its contract.
use Rattle.judged.specs.Looks.{look_is}
use Rattle.judged.proofs.look_at.Goals as goal

pub returns : goal.returns
returns c =
    look_is c.args.kind c.args.s.now c.args.at c.from-mark.result c.word-n.result c.unmarked.result
    c.is_filled.result c.requires c.from-mark.ensures c.word-n.ensures c.unmarked.ensures c.is_filled.ensures
