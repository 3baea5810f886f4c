-- `rma::rma_stretch` meets its contract: the sides are those that the heads describe, and where the stretch lies is said.
use Rattle.std.proofs.Common.{refl}
use Rattle.c_told.specs.Given.{part_bytes}
use Rattle.c_told.specs.Replies.{speaks}
use Rattle.rma.proofs.rma_stretch.Goals as goal

pub returns : goal.returns
returns c =
    let a = c.args in
    speaks part_bytes _ _ _ _ _ c.reply_of.ensures
    (c.stretch_heads-answer.ensures.said a.left.now a.right.now refl refl) c.give.ensures
