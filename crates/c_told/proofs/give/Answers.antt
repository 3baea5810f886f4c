-- `c_told::give` meets its contract: the bytes copied are those that there is room for.
use Rattle.std.proofs.Common.{arith}
use Rattle.c_told.specs.Replies.{given-short, given-whole}
use Rattle.c_told.proofs.give.Goals as goal

pub returns-then-room-long : goal.returns-then-room-long
returns-then-room-long c =
    let a = c.args in
    given-short a.reply a.said.now _ c.if-room-long.true c.copy_bytes.ensures

pub returns : goal.returns
returns c =
    let a = c.args in
    given-whole a.reply a.said.now _ (omega (arith, c.if-room-long.false)) c.copy_bytes-2.ensures
