-- `run::settle` meets its contract: the results, or zeros in their place.
use Rattle.std.proofs.Common.{arith}
use Rattle.run.specs.Calls.{all-bytes, settle-stopped}
use Rattle.run.proofs.settle.Goals as goal

pub overflow_mul-plan : goal.overflow_mul-plan
overflow_mul-plan c = omega (arith, c.requires.setting.laid.most)

pub clear_bytes-requires : goal.clear_bytes-requires
clear_bytes-requires c = omega (arith, all-bytes c.requires, c.requires.room, c.in-Err.ensures.long)

pub returns-in-Err : goal.returns-in-Err
returns-in-Err c = settle-stopped c.requires c.in-Err.ensures _ c.clear_bytes.ensures
