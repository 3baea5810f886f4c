-- `c_asked::refer_bytes` meets its contract: the loop puts one signed number after the other.
use Rattle.std.proofs.Common.{arith, ◌≡◌, refl, ◌∙◌, rules, w32, SFits, ◌-◌}
use borrow.Author.Rules.{sfits_of}
use mir.ValLaws.{to_z-of_z}
use Rattle.c_asked.specs.Pieces.{filling-starts, filling-more, filling-ends}
use Rattle.c_asked.proofs.refer_bytes.Goals as goal

pub loop-i-preserved : goal.loop-i-preserved
loop-i-preserved c =
    let f : SFits w32 c.signed_at.result = sfits_of (search rules) in
    filling-more c.loop-i-test.true
    (to_z-of_z w32 c.signed_at.result f ∙ c.signed_at.ensures) c.loop-i.invariant

pub returns : goal.returns
returns c =
    let n = c.pieces_of-n in
    let z : n.result - 0 ≡ n.result = omega arith in
    rw (z, filling-ends c.loop-i-test.false c.loop-i.invariant, n.ensures) at c.refer.ensures

pub loop-i-init : goal.loop-i-init
loop-i-init c = filling-starts (omega arith) c.pieces_of-n.ensures refl

pub overflow_mul-i : goal.overflow_mul-i
overflow_mul-i c = let v = c.loop-i.invariant in omega arith

pub signed_at-requires : goal.signed_at-requires
signed_at-requires c = let v = c.loop-i.invariant in omega arith

pub offset_bounds-zs-i : goal.offset_bounds-zs-i
offset_bounds-zs-i c = let v = c.loop-i.invariant in omega arith

pub bounds-zs-i : goal.bounds-zs-i
bounds-zs-i c = let v = c.loop-i.invariant in omega arith

pub slice_bounds-refer-end : goal.slice_bounds-refer-end
slice_bounds-refer-end c = let v = c.loop-i.invariant in omega arith
