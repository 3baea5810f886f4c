-- `decimal::put_refusal` meets its contract: the word, the three numbers, the end of the line.
use Rattle.std.proofs.Common.{◌+◌, ◌*◌, ◌≤◌, arith, length}
use lib.IntN.{pos}
use Rattle.paper.specs.declared.Refusal.{Refusal}
use Rattle.paper.specs.Numbers.{text, concat}
use Rattle.paper.specs.Rests.{spaced}
use Rattle.decimal.specs.Digits.{decimal-most}
use Rattle.decimal.specs.Lines.{number, most_spaced, three-wrote}
use Rattle.decimal.proofs.put_refusal.Goals as goal
use Rattle.decimal.proofs.put_refusal.Goals.{After-put_number-last, After-put_number-second, After-put_number-third, After-put_text-first, Start}

-- the number is written
module _ (c : After-put_number-second) where
  abbrev word : After-put_text-first
  word = c.before.before.before.before.before

  abbrev start : Start
  start = c.before.before.before.before.before.before.before.before.before.before

  abbrev q : Refusal
  q = start.args.refusal

  first : c.put_number-second.result ≤ start.args.at + length (text "refused") + most_spaced
  first = omega (arith, word.put_text-first.ensures.0, c.put_number-second.ensures.0, decimal-most (pos q.number))

-- the place
module _ (c : After-put_number-third) where
  abbrev one : After-put_number-second
  one = c.before.before.before.before.before

  second : c.put_number-third.result ≤ (start one).args.at + length (text "refused") + 2 * most_spaced
  second = omega (arith, first one, c.put_number-third.ensures.0, decimal-most (pos (q one).place))

pub put_number-third-requires : goal.put_number-third-requires
put_number-third-requires c = omega (arith, first (goal.at.put_number-third-requires c).After-put_number-second)

pub put_number-last-requires : goal.put_number-last-requires
put_number-last-requires c = omega (arith, second (goal.at.put_number-last-requires c).After-put_number-third)

-- the ordinality
module _ (c : After-put_number-last) where
  abbrev two : After-put_number-third
  two = c.before.before.before.before.before

pub put_byte-requires : goal.put_byte-requires
put_byte-requires c =
    let s = (goal.at.put_byte-requires c).After-put_number-last in
    let o = one (two s) in
    omega (arith, (start o).requires, (word o).put_text-first.auto.out, second (two s), c.put_number-last.ensures.0, decimal-most (pos (q o).ordinality))

pub returns : goal.returns
unfolding spaced concat
returns c =
    let p = (goal.at.returns c).After-put_number-last in
    let o = one (two p) in
    let s = start o in
    let x = pos (q o).number in
    let y = pos (q o).place in
    let z = pos (q o).ordinality in
    three-wrote s.args.out.now s.args.at (text "refused") (number x) (number y) (number z) (text "\n")
    (omega (arith, s.requires, decimal-most x, decimal-most y, decimal-most z)) (word o).put_text-first.ensures o.put_number-second.ensures
    (two p).put_number-third.ensures c.put_number-last.ensures c.put_byte.ensures
