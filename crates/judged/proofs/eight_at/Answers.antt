-- `judged::eight_at` meets its contract.
use Rattle.judged.proofs.eight_at.Goals as goal

pub returns : goal.returns
returns c e =
    let b = c.joined.ensures (c.is_sound.ensures e) in
    record { first = c.four_at.ensures b.0; second = c.four_at-2.ensures b.1 }
