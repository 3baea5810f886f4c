-- `origin::sliced` meets its contract: blocks and layers count as the definition has it.
use Rattle.paper.specs.Answers.{axes_of}
use Rattle.origin.specs.Counts.{Around, low-enough, layers-countable, slice-countable, slice-told}
use Rattle.origin.proofs.sliced.Goals as goal
use Rattle.origin.proofs.sliced.Goals.{After-axis_of-a, Start}

module _ (c : After-axis_of-a) where
  abbrev s : Start
  s = c.before.before.before

  around : Around s.args.k.0 (axes_of s.args.e) c.block_of-block.result c.layer_of-layer.result
      c.axis_of-a.result
  around = record { blocks = c.block_of-block.ensures; layers = c.layer_of-layer.ensures; axis = c.axis_of-a.ensures }

pub overflow_sub-layers : goal.overflow_sub-layers
overflow_sub-layers c =
    let p = (goal.at.overflow_sub-layers c).After-axis_of-a in
    low-enough (around p) (s p).requires

pub counted-requires : goal.counted-requires
counted-requires c =
    let p = (goal.at.counted-requires c).After-axis_of-a in
    layers-countable (around p) (s p).requires

pub counted-requires-2 : goal.counted-requires-2
counted-requires-2 c =
    let p = (goal.at.counted-requires-2 c).After-axis_of-a in
    slice-countable (around p) (s p).requires c.counted.ensures

pub returns : goal.returns
returns c =
    let p = (goal.at.returns c).After-axis_of-a in
    slice-told (around p) (s p).requires c.counted.ensures c.counted-2.ensures
