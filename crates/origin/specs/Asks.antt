-- What the functions of this crate ask of their callers, and that a step that passed its tests gives it.
use Rattle.std.specs.Prelude.{ℕ, ◌+◌, ◌-◌, ◌*◌, ◌≤◌, ◌<◌, ◌≡◌, List, take, drop}
use Rattle.std.proofs.Math.Path.{sym, ap}
use Rattle.std.proofs.Common.{◌∙◌, mul-le-mul_right, one-mul, arith, length-append, length-take, length-drop}
use Rattle.std.proofs.Math.Bool.{true}
use Rattle.std.proofs.Math.ListN.{length}
use Rattle.paper.specs.declared.Axis.{Axis}
use Rattle.paper.specs.declared.Move.{Move}
use Rattle.paper.specs.declared.Move.TheVariants.{Slice, Update, Put, Glue}
use Rattle.paper.specs.Limits.{reach, most_cells, most_axes, limit_bytes}
use Rattle.paper.specs.Refusals.{between}
use Rattle.paper.specs.Numbers.{position_at}
use Rattle.paper.specs.Axes.{width, cells, no_axis, axis_at, on_axis, without}
use Rattle.paper.specs.Recipe.{Step, uses, fits_in, with_limits, result_axes}
use Rattle.laws.specs.Tests.{and_left, between-true}
use Rattle.laws.specs.Agreeing.{update-many, put-many}
use Rattle.laws.specs.Places.{on_axis-true}
use Rattle.laws.specs.Limits.{sound-at}
use Rattle.laws.specs.Sizes.{fits}
use Rattle.laws.specs.Joins.{cells-without, sound-without}
use Rattle.laws.proofs.Glue.{Gluable, gluable}
use Rattle.positions.specs.Runs.{Holds}
use Rattle.extent.specs.Judged.{Small}
use Rattle.extent.specs.Tests.{sound-axis}
use Rattle.shape.specs.Renewed.{length-anew}
use Rattle.step.specs.declared.StepHead.{StepHead}
use Rattle.step.specs.Steps.{detail_of, fewer}
use Rattle.origin.specs.Origins.{Moving}
use Rattle.origin.specs.Patches.{Insertable, length-in, spot, patch, small-patch}

-- cell k of T, and another extent with as many axes
pub record Beside (T E : List Axis) (k : ℕ) : Type 0 where
  pub here : Small T
  pub there : Small E
  pub same : length E ≡ length T
  pub lt : k < cells T

-- an axis of an extent
pub record Axial (k : ℕ) (E : List Axis) : Type 0 where
  pub small : Small E
  pub one : 1 ≤ k
  pub last : k ≤ length E

-- the position x on it, and a cell of the other axes
pub record Sliced (k : ℕ) (E : List Axis) (x j : ℕ) : Type 0 where
  pub axial : Axial k E
  pub low : (axis_at k E).lo ≤ x
  pub high : x ≤ (axis_at k E).hi
  pub lt : j < cells (without k E)

-- numbers of cells in turn, and a cell of both
pub record InTurns (m n j : ℕ) : Type 0 where
  pub some : 1 ≤ m
  pub first : m ≤ most_cells
  pub second : n ≤ most_cells
  pub few : j ≤ most_cells

-- so many blocks of a size, and a rest
pub record Countable (blocks size rest : ℕ) : Type 0 where
  pub number : blocks ≤ 2 * reach
  pub each : size ≤ most_cells
  pub more : rest ≤ (2 * reach + 1) * most_cells

-- ---- the axes but one

pub small-without : (k : ℕ) (E : List Axis) → Axial k E → Small (without k E)
small-without k E a =
    let last = a.last in
    let one = a.one in
    let w = sound-at E (k - 1) no_axis a.small.sound (omega arith) in
    let p : 1 * cells (without k E) ≤ width (axis_at k E) * cells (without k E) =
    mul-le-mul_right (cells (without k E)) (omega (arith, w.0)) in
    record {
      sound = sound-without k E one last a.small.sound;
      few = omega (arith, a.small.few, cells-without k E one last, p, one-mul (cells (without k E)));
    }

pub length_without : (k : ℕ) (E : List Axis) → 1 ≤ k → k ≤ length E → length (without k E) + 1 ≡ length E
length_without k E one last = omega (arith, length-append (take (k - 1) E) (drop k E), length-take (k - 1) E, length-drop k E)

-- ---- the position that a step's detail begins with

pub position-asks : (s : StepHead) {bs : List ℕ} → Holds s.at (detail_of s) bs → Holds s.at limit_bytes bs
position-asks s h = fewer s.at limit_bytes (detail_of s) _ (omega (arith, (fits s.version).scalar)) h

-- ---- from a step's tests

axial-in : {k : ℕ} {E : List Axis} → Small E → between 1 (length E) k ≡ true → Axial k E
axial-in {k} {E} s e = let b = between-true (length E) k e in record { small = s; one = b.0; last = b.1 }

module _ {st : Step} {E F G : List Axis} where
  -- trim and reshape
  pub limits-ask : {m : Move} {k : ℕ} → Moving m st E F G → k < cells G → G ≡ with_limits E st.detail → Beside G E k
  limits-ask M h g =
      record { here = M.result; there = M.first; same = sym (ap length g ∙ length-anew _ _ E st.detail); lt = h }

  pub slice-asks : {k : ℕ} → Moving Slice st E F G → k < cells G → Sliced st.axis E (position_at 0 st.detail) k
  unfolding result_axes uses fits_in
  slice-asks M h =
      let x = position_at 0 st.detail in
      let f : on_axis (axis_at st.axis E) x ≡ true = rw (← M.left-axes) M.fits in
      let l = on_axis-true (axis_at st.axis E) x f in
      record { axial = axial-in M.first M.axis; low = l.0; high = l.1; lt = rw M.axes at h }

  pub update-asks : {k : ℕ} → Moving Update st E F G → k < cells G → Beside G F k
  unfolding result_axes
  update-asks M h =
      let n = update-many st.axis M.left.names E M.right.names F M.agrees in
      record { here = M.result; there = M.second; same = sym (ap length M.axes ∙ n); lt = h }

  -- place: B has one axis fewer, and has room for it
  pub put-axis : Moving Put st E F G → (1 ≤ st.axis) × (st.axis ≤ length E) × (length E ≡ length F + 1)
  unfolding uses
  put-axis M =
      let a = axial-in M.first M.axis in
      let s = put-many st.axis M.left.names E M.right.names F M.agrees in
      (a.one, a.last, omega (arith, s, length_without st.axis E a.one a.last))

  pub put-room : Moving Put st E F G → length E ≤ most_axes → Insertable st.axis F
  put-room M h = let a = put-axis M in record { one = a.0; last = omega (arith, a.1, a.2); room = omega (arith, a.2) }

  pub put-asks : {k : ℕ} → Moving Put st E F G → k < cells G → length E ≤ most_axes → Beside G (patch st F) k
  unfolding result_axes fits_in
  put-asks M h few =
      let x = position_at 0 st.detail in
      let f : on_axis (axis_at st.axis E) x ≡ true = rw (← M.left-axes) (and_left _ _ M.fits) in
      let l = on_axis-true (axis_at st.axis E) x f in
      let r = sound-axis E (st.axis - 1) M.first.sound in
      let n = length-in (put-room M few) (spot x) in
      record {
        here = M.result;
        there = small-patch st.axis x F M.second (omega (arith, l.1, r.1));
        same = omega (arith, n, (put-axis M).2, ap length M.axes);
        lt = h;
      }

  pub glue-asks : Moving Glue st E F G → Gluable st.axis E F
  unfolding uses
  glue-asks M =
      let a = axial-in M.first M.axis in
      gluable st.axis M.left.names M.right.names E F a.one a.last M.first.sound M.agrees

  pub axials : Moving Glue st E F G → Axial st.axis E × Axial st.axis F
  axials M =
      let g = glue-asks M in
      (record { small = M.first; one = g.one; last = g.first }, record { small = M.second; one = g.one; last = g.second })
