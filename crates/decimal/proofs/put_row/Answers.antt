-- `decimal::put_row` meets its contract: the ordinality, then each position; whatever writes what is left completes the line.
use Rattle.std.proofs.Common.{◌∙◌, arith}
use Rattle.decimal.specs.Digits.{digits-most}
use Rattle.decimal.specs.Rows.{line-begins, line-more, line-ends, line_wrote}
use Rattle.decimal.proofs.put_row.Goals as goal
use Rattle.decimal.proofs.put_row.Goals.{After-put_decimal-end, At-loop-i, Start}

-- at the loop's head the ordinality is written
module _ (c : At-loop-i) where
  abbrev o : After-put_decimal-end
  o = record { before = c.before.before.before.before; type_inv = record { rows = c.shared_slice_known-1.given } }

  abbrev start : Start
  start = c.before.before.before.before.before.before.before.before.before

pub loop-i-init : goal.loop-i-init
loop-i-init c =
    line-begins (omega (arith, c.put_decimal-end.ensures.0, digits-most 19 c.half.result, c.put_decimal-end.auto.out))

pub position_at-requires : goal.position_at-requires
position_at-requires c = record { room = omega (arith, (start (goal.at.position_at-requires c).At-loop-i).requires.0, c.loop-i-test.true) }

pub put_position-end-requires : goal.put_position-end-requires
put_position-end-requires c = omega (arith, c.loop-i.invariant.room, c.loop-i-test.true)

pub loop-i-preserved : goal.loop-i-preserved
loop-i-preserved c =
    let p = c.put_position-end in
    line-more c.loop-i.invariant c.loop-i-test.true c.position_at.ensures p.auto.out p.ensures

pub shape_of-out : goal.shape_of-out
shape_of-out c =
    c.put_byte.auto.out ∙ c.loop-i.invariant.long ∙ (o (goal.at.shape_of-out c).At-loop-i).put_decimal-end.auto.out

pub returns : goal.returns
returns c =
    let w = (goal.at.returns c).At-loop-i in
    let p = o w in
    let s = start w in
    line_wrote s.args.rows.now s.args.from s.args.rank s.args.out.now s.args.at s.requires.1
    p.half.ensures p.put_decimal-end.ensures (line-ends c.loop-i.invariant c.loop-i-test.false c.put_byte.ensures)

pub put_decimal-end-requires : goal.put_decimal-end-requires
put_decimal-end-requires c = omega (arith, digits-most 19 c.half.result)

pub put_byte-requires : goal.put_byte-requires
put_byte-requires c = omega (arith, c.loop-i.invariant.room)
