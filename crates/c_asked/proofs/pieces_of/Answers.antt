-- `c_asked::pieces_of` meets its contract: each way out by the tests passed.
use Rattle.std.proofs.Common.{mul-le-mul, arith}
use Rattle.c_asked.specs.Pieces.{pieces-broken, pieces-over, pieces_whole}
use Rattle.c_asked.proofs.pieces_of.Goals as goal

pub returns-then-n-size-ne0 : goal.returns-then-n-size-ne0
returns-then-n-size-ne0 c = let a = c.args in pieces-broken a.most a.size a.n c.if-n-size-ne0.true

pub overflow_mul-most : goal.overflow_mul-most
overflow_mul-most c = omega (arith, mul-le-mul c.requires.2 c.requires.1)

pub returns-then-most-size : goal.returns-then-most-size
returns-then-most-size c = let a = c.args in pieces-over a.most a.size a.n c.if-n-size-ne0.false c.if-most-size.true

pub returns : goal.returns
returns c = let a = c.args in pieces_whole a.most a.size a.n c.if-n-size-ne0.false c.if-most-size.false
