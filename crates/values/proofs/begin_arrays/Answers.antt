-- `values::begin_arrays` meets its contract: the quick loop's own promise.
use Rattle.values.proofs.begin_arrays.Goals as goal

pub ahead-count-requires : goal.ahead-count-requires
ahead-count-requires c = rw c.paired-pairing.ensures c.requires

pub returns : goal.returns
returns c = (c.paired-pairing.ensures, rw c.paired-pairing.ensures at c.ahead-count.ensures)
