-- `shape::names::short_name` meets its contract.
use Rattle.shape.specs.Names.{short-name}
use Rattle.shape.proofs.names.short_name.Goals as goal

pub returns : goal.returns
returns c = let s = c in short-name s.args.s.now s.args.at c.word-first.result c.word-first.ensures
