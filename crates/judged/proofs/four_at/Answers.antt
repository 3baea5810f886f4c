-- `judged::four_at` meets its contract.
use Rattle.judged.proofs.four_at.Goals as goal

pub returns : goal.returns
returns c e =
    let b = c.joined.ensures e in
    let first = c.joined-first.ensures b.0 in
    let second = c.joined-second.ensures b.1 in
    let l = c in
    record {
      one = l.look_at.ensures first.0;
      two = l.look_at-2.ensures first.1;
      three = c.look_at-3.ensures second.0;
      four = c.look_at-4.ensures second.1;
    }
