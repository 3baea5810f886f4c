-- `c_told::of_json` meets its contract: the number of cells, or why a text is not read.
use Rattle.c_told.specs.Capped.{json-arm}
use Rattle.c_told.proofs.of_json.Goals as goal

pub returns-in-Ok : goal.returns-in-Ok
returns-in-Ok c = json-arm _ c.in-Ok.is c.told.ensures

pub returns-in-Err : goal.returns-in-Err
returns-in-Err c = json-arm _ c.in-Err.is c.json_refused.ensures
