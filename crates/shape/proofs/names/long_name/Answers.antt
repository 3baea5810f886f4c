-- `shape::names::long_name` meets its contract.
use Rattle.shape.specs.Names.{long-name}
use Rattle.shape.proofs.names.long_name.Goals as goal

pub returns : goal.returns
returns c =
    let s = c in
    long-name s.args.s.now s.args.at c.word-first.result c.word-last.result c.word-first.ensures c.word-last.ensures
