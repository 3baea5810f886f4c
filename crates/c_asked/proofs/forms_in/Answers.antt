-- `c_asked::forms_in` meets its contract: the loop puts one form after the other.
use Rattle.std.proofs.Common.{ℕ, ◌+◌, ◌*◌, ◌≤◌, List, refl, ◌∙◌, ap, arith, length}
use Rattle.paper.specs.Limits.{most_arrays, sizes_of}
use Rattle.bundle.specs.Axes.{axis-room}
use Rattle.c_asked.specs.Asked.{pieces, each_piece}
use Rattle.c_asked.specs.Pieces.{filling-starts, filling-more, filling-ends}
use Rattle.c_asked.specs.Heads.{form_in}
use Rattle.c_asked.proofs.forms_in.Goals as goal
use Rattle.c_asked.proofs.forms_in.Goals.{After-whole_head-size, In-loop-i}

-- in the loop
module _ (c : In-loop-i) where
  abbrev sized : After-whole_head-size
  sized = (goal.at.In-loop-i c).After-whole_head-size

  abbrev heads : List ℕ
  heads = sized.args.heads.now

  abbrev size : ℕ
  size = sized.whole_head-size.result

  inside : 0 + c.loop-i.i * size + size ≤ length heads
  inside = let v = c.loop-i.invariant in axis-room c.loop-i.i _ size 0 (length heads) c.loop-i-test.true
      (omega (arith, v.room))

pub returns : goal.returns
returns c =
    let a = c.args in
    let e = c.whole_head-size.ensures.0 in
    record {
      count = c.pieces_of-count.ensures ∙ ap (λ (n : ℕ). pieces most_arrays n (length a.heads.now)) e;
      forms =
          filling-ends c.loop-i-test.false c.loop-i.invariant
          ∙ ap (λ (n : ℕ). each_piece (form_in (sizes_of a.v)) n c.pieces_of-count.result a.heads.now) e;
    }

pub pieces_of-count-requires : goal.pieces_of-count-requires
pieces_of-count-requires c = let w = c.whole_head-size.ensures in (omega (arith, w.0), w.1, omega arith)

pub loop-i-init : goal.loop-i-init
loop-i-init c = filling-starts (omega (arith, c.whole_head-size.ensures.0))
    c.pieces_of-count.ensures refl

pub overflow_mul-i : goal.overflow_mul-i
overflow_mul-i c = omega (arith, inside c)

pub form_at-form-requires : goal.form_at-form-requires
form_at-form-requires c = omega (arith, inside c, (sized c).whole_head-size.ensures.0)

pub offset_bounds-forms-i : goal.offset_bounds-forms-i
offset_bounds-forms-i c = let v = c.loop-i.invariant in omega arith

pub bounds-forms-i : goal.bounds-forms-i
bounds-forms-i c = let v = c.loop-i.invariant in omega arith

pub loop-i-preserved : goal.loop-i-preserved
loop-i-preserved c = filling-more c.loop-i-test.true c.form_at-form.ensures c.loop-i.invariant
