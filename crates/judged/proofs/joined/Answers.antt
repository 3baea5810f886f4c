-- `judged::joined` meets its contract.
use Rattle.judged.specs.Looks.{both-sound}
use Rattle.judged.proofs.joined.Goals as goal

pub returns : goal.returns
returns c = let a = c.args in both-sound a.a a.b
