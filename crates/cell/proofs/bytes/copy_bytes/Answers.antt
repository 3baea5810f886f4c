-- `cell::bytes::copy_bytes` meets its contract: after k bytes, those left put where the loop stands are the whole put at the start.
use Rattle.std.proofs.Common.{arith}
use Rattle.laws.specs.Put.{copy-begins, copy_more, copy-ends}
use Rattle.cell.proofs.bytes.copy_bytes.Goals as goal

pub loop-k-init : goal.loop-k-init
loop-k-init c = copy-begins c.args.s.now c.args.from c.args.d.now c.args.at c.args.n c.requires.0 c.requires.1

pub bounds-s-from : goal.bounds-s-from
bounds-s-from c = omega (arith, c.requires)

pub bounds-d-at : goal.bounds-d-at
bounds-d-at c = omega (arith, c.loop-k.invariant.long)

pub loop-k-preserved : goal.loop-k-preserved
loop-k-preserved c = copy_more c.args.s.now c.args.from c.args.d.now c.args.at c.args.n c.requires.0 c.requires.1 c.loop-k.d c.loop-k.k c.loop-k.invariant c.loop-k-test.true

pub shape_of-d : goal.shape_of-d
shape_of-d c = c.loop-k.invariant.long

pub returns : goal.returns
returns c = copy-ends c.args.s.now c.args.from c.args.d.now c.args.at c.args.n c.requires.0 c.requires.1 c.loop-k.d c.loop-k.k c.loop-k.invariant c.loop-k-test.false
