-- `json_write::write` meets its contract: judged, measured, then written.
use Rattle.std.proofs.Common.{arith}
use Rattle.std.proofs.lemmas.Result.{err_from_is_err_and}
use Rattle.laws.specs.Numbers.{Bytes}
use Rattle.paper.specs.Answers.{axes_of}
use Rattle.json_write.specs.Whole.{Whole, own-refusal, float-refused, small-refused, text-got, its-whole}
use Rattle.json_write.proofs.write.Goals as goal
use Rattle.json_write.proofs.write.Goals.{Else-kind-eq-FLOAT}

pub returns-in_err-head : goal.returns-in_err-head
returns-in_err-head c =
    let p = err_from_is_err_and c.from_residual.result c.from_residual.ensures.1 in
    rw (p.1, p.2) (own-refusal _ _ _ c.in_err-head.ensures.0)

-- an array was chosen, and its cells are no FLOAT numbers: it is whole
module _ (c : Else-kind-eq-FLOAT) where
  whole : Whole c.args.s.now c.in_ok-head.head.at (axes_of c.in_ok-head.head.form.extent)
  whole = let bytes : Bytes c.args.s.now = λ i. omega (arith, c.type_inv.s i) in its-whole c.in_ok-head.ensures c.args.out.now bytes

pub returns-then-kind-eq-FLOAT : goal.returns-then-kind-eq-FLOAT
returns-then-kind-eq-FLOAT c = float-refused c.in_ok-head.ensures c.args.out.now c.if-kind-eq-FLOAT.true c.refuse.ensures

pub json_length-long-requires : goal.json_length-long-requires
json_length-long-requires c =
    (whole (goal.at.json_length-long-requires c).Else-kind-eq-FLOAT, c.in_ok-head.ensures.fit.counted)

pub returns-then-out-long : goal.returns-then-out-long
returns-then-out-long c =
    small-refused c.in_ok-head.ensures c.args.out.now c.if-kind-eq-FLOAT.false (omega (arith, c.json_length-long.ensures.0))
    c.refuse-then-out-long.ensures

pub put_json-requires : goal.put_json-requires
put_json-requires c = (whole (goal.at.put_json-requires c).Else-kind-eq-FLOAT, omega (arith, c.json_length-long.ensures.0))

pub returns : goal.returns
returns c =
    let j = c.json_length-long.ensures.0 in
    text-got c.in_ok-head.ensures c.args.out.now c.if-kind-eq-FLOAT.false (omega (arith, j)) j c.put_json.ensures
