-- `values::begin_scalar` meets its contract: the quick loop's own promise, with the scalar on its hand.
use Rattle.std.proofs.Common.{◌≡◌, ◌∙◌}
use Rattle.values.specs.Turns.{handed, on-right, on-left}
use Rattle.values.proofs.begin_scalar.Goals as goal
use Rattle.values.proofs.begin_scalar.Goals.{Joined-hand, Start, in-Right, in-Left}

module _ (c : Joined-hand) where
  abbrev start : Start
  start = (goal.at.Joined-hand c).Start

  told : c.match-hand.pairing ≡ handed start.args.hand start.args.code start.args.scalar start.args.x
  told =
      elim c.match-hand.branch [
        | in-Right w ↦ on-right w.in-Right.is (w.pairing-is ∙ w.paired-pairing.ensures)
        | in-Left w ↦ on-left w.in-Left.is (w.pairing-is ∙ w.paired-pairing-in-Left.ensures)
      ]

pub ahead-count-requires : goal.ahead-count-requires
ahead-count-requires c =
    let s = (goal.at.ahead-count-requires c).Joined-hand in
    rw (told s) (start s).requires

pub returns : goal.returns
returns c =
    let s = (goal.at.returns c).Joined-hand in
    (told s, rw (told s) at c.ahead-count.ensures)
