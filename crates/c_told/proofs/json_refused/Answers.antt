-- `c_told::json_refused` meets its contract: a byte of the text, or the refusal.
use Rattle.std.specs.Prelude.{Err}
use Rattle.std.proofs.Common.{ap, arith}
use Rattle.c_told.specs.Capped.{json-arm, json-refused}
use Rattle.c_told.proofs.json_refused.Goals as goal

pub returns-in-NotJson : goal.returns-in-NotJson
returns-in-NotJson c = json-arm _ (ap Err c.in-NotJson.is) c.text_refused.ensures

pub returns-in-Misfit : goal.returns-in-Misfit
returns-in-Misfit c = json-arm _ (ap Err c.in-Misfit.is) c.text_refused-in-Misfit.ensures

pub returns-in-Refused : goal.returns-in-Refused
returns-in-Refused c = json-refused _ (ap Err c.in-Refused.is) (omega arith) c.refused.ensures
