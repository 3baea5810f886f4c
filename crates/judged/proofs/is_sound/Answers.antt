-- `judged::is_sound` meets its contract.
use Rattle.judged.specs.Looks.{sound-told}
use Rattle.judged.proofs.is_sound.Goals as goal

pub returns : goal.returns
returns c = sound-told c.args.l
