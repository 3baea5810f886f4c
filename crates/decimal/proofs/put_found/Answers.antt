-- `decimal::put_found` meets its contract: the word, the number, the end of the line.
use Rattle.std.proofs.Common.{ℕ, ap, List, ◌++◌, append-nil, arith, length, length-append}
use lib.IntN.{pos}
use Rattle.paper.specs.Numbers.{text, concat}
use Rattle.paper.specs.Rests.{spaced}
use Rattle.decimal.specs.Wrote.{wrote-three}
use Rattle.decimal.specs.Digits.{decimal-most}
use Rattle.decimal.specs.Lines.{number}
use Rattle.decimal.proofs.put_found.Goals as goal
use Rattle.decimal.proofs.put_found.Goals.{After-put_number-last, After-put_text-first, Start}

-- the number is written
module _ (c : After-put_number-last) where
  abbrev word : After-put_text-first
  word = c.before.before.before.before

  abbrev start : Start
  start = c.before.before.before.before.before.before.before.before.before

pub put_byte-requires : goal.put_byte-requires
put_byte-requires c =
    let s = (goal.at.put_byte-requires c).After-put_number-last in
    omega (arith, (word s).put_text-first.ensures.0, decimal-most (pos (start s).args.rows), c.put_number-last.ensures.0)

pub returns : goal.returns
unfolding spaced concat
returns c =
    let p = (goal.at.returns c).After-put_number-last in
    let s = start p in
    let x = number (pos s.args.rows) in
    let t = ap (λ (l : List ℕ). text "found" ++ (l ++ text "\n")) (append-nil x) in
    let l = length-append x (text "\n") in
    wrote-three s.args.out.now s.args.at (text "found") x (text "\n") _ t
    (omega (arith, ap length t, l, decimal-most (pos s.args.rows), s.requires)) (word p).put_text-first.ensures c.put_number-last.ensures
    c.put_byte.ensures
