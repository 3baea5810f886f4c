-- `json_write::put_axes` meets its contract: the measure is the number of axes left; with one left the cells are drawn, with more the
-- loop's invariant is `Rowing`.
use Rattle.std.proofs.Common.{ℕ, ◌-◌, ◌<◌, ◌≡◌, refl, ap, ◌∙◌, arith, length, length-set}
use Rattle.paper.specs.declared.Axis.{Axis}
use Rattle.paper.specs.Axes.{width}
use Rattle.paper.specs.Answers.{axes_of}
use Rattle.extent.specs.Tests.{sound-axis}
use Rattle.json_write.specs.Rows.{row_at, row-end, row-turn}
use Rattle.json_write.specs.Whole.{one-ready, one-drawn, more-fits, next-ready, more-drawn}
use Rattle.json_write.proofs.+put_axes.Goals as goal
use Rattle.json_write.proofs.+put_axes.Goals.{After-loop-more}

-- the width of the first of the axes that are left is known
wide : {w : ℕ} {a b : Axis} → w ≡ width a → a ≡ b → w ≡ width b
wide p e = p ∙ ap width e

pub width_of-width-requires : goal.width_of-width-requires
width_of-width-requires t c =
    let E = axes_of c.args.extent in
    rw c.axis_left.ensures (sound-axis E (length E - c.args.left) c.requires.sound)

pub put_cells-requires : goal.put_cells-requires
put_cells-requires t c = one-ready c.requires (wide c.width_of-width.ensures.0 c.axis_left.ensures) c.if-left-eq1.true

pub returns-then-left-eq1 : goal.returns-then-left-eq1
returns-then-left-eq1 t c =
    one-drawn c.requires (wide c.width_of-width.ensures.0 c.axis_left.ensures) c.if-left-eq1.true c.put_cells.ensures

-- more axes are left: the row fits
pub bounds-out-begin : goal.bounds-out-begin
bounds-out-begin t c =
    omega (arith, more-fits c.requires (wide c.width_of-width.ensures.0 c.axis_left.ensures) c.if-left-eq1.false)

-- the axes after the first are written, and the comma
pub put_axes-pen-requires : goal.put_axes-pen-requires
put_axes-pen-requires t c =
    let long : length c.loop-more.out ≡ length c.args.out.now = c.loop-more.invariant.long ∙ simp length-set in (
      omega (arith, c.decreases, c.requires.some),
      next-ready c.requires (wide c.width_of-width.ensures.0 c.axis_left.ensures) c.if-left-eq1.false c.loop-more.invariant refl
          c.loop-more-test.true _ long,
    )

pub put_comma-requires : goal.put_comma-requires
put_comma-requires t c =
    let f = more-fits c.requires (wide c.width_of-width.ensures.0 c.axis_left.ensures) c.if-left-eq1.false in
    let g = row_at c.loop-more.invariant _ _ refl f c.loop-more-test.true in
    omega (arith, g, c.put_axes-pen.ensures.drawn.0, c.put_axes-pen.auto.out, c.loop-more.invariant.long, length-set {A = ℕ})

pub loop-more-preserved : goal.loop-more-preserved
loop-more-preserved t c =
    let d = c.put_axes-pen.ensures in row-turn c.loop-more.invariant c.loop-more-test.true d.drawn c.put_comma.ensures d.goes

-- the bracket that closes the row fits
module _ (t : ℕ) (c : After-loop-more t) where
  end : c.loop-more.pen.at < length c.args.out.now
  end =
      row-end c.loop-more.invariant _ _ refl
      (more-fits c.requires (wide c.width_of-width.ensures.0 c.axis_left.ensures) c.if-left-eq1.false)

pub bounds-out-end : goal.bounds-out-end
bounds-out-end t c = omega (arith, end t c, c.loop-more.invariant.long, length-set {A = ℕ})

pub overflow_add-pen-2 : goal.overflow_add-pen-2
overflow_add-pen-2 t c = omega (arith, end t c)

pub returns : goal.returns
returns t c =
    more-drawn c.requires (wide c.width_of-width.ensures.0 c.axis_left.ensures) c.if-left-eq1.false c.loop-more.invariant
    c.loop-more-test.false _ (refl, refl) (refl, refl)
