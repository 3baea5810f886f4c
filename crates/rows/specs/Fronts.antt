-- The first axes of an extent and those after, as the code takes them: of its array, by an index from 0. What is known of axes put
-- together is so known of two extents beside each other.
use Rattle.std.specs.Prelude.{ℕ, suc, ◌+◌, ◌-◌, ◌*◌, ◌/◌, ◌%◌, ◌≤◌, ◌<◌, ◌≡◌, true, List, ◌∷◌, ◌++◌, eqb, length, take, drop, None}
use Rattle.std.proofs.Common.{sym, ap, ◌∙◌, mul-le-mul_right, div-lt_iff_lt-mul, mod-lt, one-mul, mul_comm, add-mul, add-one, arith, eqb-true, le-leb, length-take, take-append-drop, length-take-le, drop-cons, get_or-take, take-take}
use Rattle.paper.specs.declared.Axis.{Axis}
use Rattle.paper.specs.declared.Extent.{Extent}
use Rattle.paper.specs.Limits.{most_axes}
use Rattle.paper.specs.Axes.{cells, at_offset, no_axis}
use Rattle.paper.specs.Answers.{axis_count, axes_of}
use Rattle.laws.specs.Tests.{and_left, and_right}
use Rattle.laws.specs.Answers.{axes-few}
use Rattle.laws.specs.Limits.{cells-pos, sound-take, sound-drop}
use Rattle.laws.specs.Alike.{same_limits, SameLimits}
use Rattle.laws.specs.Joins.{cells-append}
use Rattle.extent.specs.Rank.{axis_no}
use Rattle.extent.specs.Judged.{Small}
use Rattle.origin.specs.Asks.{Beside}
use Rattle.origin.specs.Origins.{found_in}
use Rattle.rows.specs.Sides.{SideBySide, SideLeft, Lined, uneven-side, outside-side, lined_on}

-- ---- in the array

-- axis i and those after, counted from 0
pub axes-on : (e : Extent) (i : ℕ) → i < length (axes_of e) → drop i (axes_of e) ≡ axis_no e i ∷ drop (i + 1) (axes_of e)
unfolding axes_of
axes-on e i h =
    let n = axis_count e.rank in
    rw (add-one i)
    (drop-cons (take n e.axes) i no_axis h
    ∙ ap (λ (a : Axis). a ∷ drop (suc i) (take n e.axes)) (get_or-take n e.axes i no_axis (omega (arith, length-take n e.axes))))

-- its first c axes are an extent
first-few : (e : Extent) (c : ℕ) → c ≤ most_axes → c ≤ length (axes_of e) → axes_of (record { rank = c; axes = e.axes }) ≡ take c (axes_of e)
unfolding axes_of
first-few e c few h =
    let n = axis_count e.rank in
    rw (le-leb c most_axes few) (sym (take-take c n e.axes (omega (arith, length-take n e.axes))))

pub first-told : (e : Extent) (c : ℕ) → c ≤ length (axes_of e) → axes_of (record { rank = c; axes = e.axes }) ≡ take c (axes_of e)
first-told e c h = first-few e c (omega (arith, axes-few e)) h

-- ---- the first c axes, and those after

cells-parted : (E : List Axis) (c : ℕ) → cells E ≡ cells (take c E) * cells (drop c E)
cells-parted E c = ap cells (sym (take-append-drop c E)) ∙ cells-append (take c E) (drop c E)

small-take : (E : List Axis) (c : ℕ) → Small E → Small (take c E)
small-take E c s =
    let p = mul-le-mul_right (cells (take c E)) (cells-pos (drop c E) (sound-drop E c s.sound)) in
    let e = mul_comm (cells (take c E)) (cells (drop c E)) in
    record {
      sound = sound-take E c s.sound;
      few = omega (arith, s.few, cells-parted E c, one-mul (cells (take c E)));
    }

same-take : (G E : List Axis) (c : ℕ) → length E ≡ length G → c ≤ length G → length (take c E) ≡ length (take c G)
same-take G E c s h = length-take-le c E (omega arith) ∙ sym (length-take-le c G h)

module _ {G E : List Axis} {k : ℕ} (b : Beside G E k) where
  module _ (c : ℕ) (few : c ≤ length G) where
    some_after : 0 < cells (drop c G)
    some_after = cells-pos (drop c G) (sound-drop G c b.here.sound)

    pub first-beside : Beside (take c G) (take c E) (k / cells (drop c G))
    first-beside = record {
      here = small-take G c b.here;
      there = small-take E c b.there;
      same = same-take G E c b.same few;
      lt = (div-lt_iff_lt-mul {x = k} {y = cells (take c G)} some_after).1 (omega (arith, b.lt, cells-parted G c));
    }

    pub first-lined : (n : ℕ) → k % cells (drop c G) ≡ 0 → SideBySide (take c G) (take c E) (k / cells (drop c G)) n
        → Lined G E k (record { line = cells (drop c G); lines = n; stride = cells (drop c E) })
    first-lined n z run =
        rw (take-append-drop c G, take-append-drop c E) at
        (lined_on (take c G) (drop c G) (take c E) (drop c E) k n (same-take G E c b.same few) some_after z run)

    -- outside by the first c axes
    module _ (n : ℕ) (run : SideBySide (take c G) (take c E) (k / cells (drop c G)) n) where
      pub around-few : (n * cells (drop c G) ≤ cells G) × (k % cells (drop c G) ≤ n * cells (drop c G))
      around-few =
          let m = cells (drop c G) in
          let top : (k / m + n) * m ≤ cells (take c G) * m = mul-le-mul_right m run.room in
          let one : 1 * m ≤ n * m = mul-le-mul_right m run.some in
          (omega (arith, add-mul (k / m) n m, cells-parted G c), omega (arith, mod-lt k some_after, one-mul m))

      pub around-side : found_in (take c E) (at_offset (take c G) (k / cells (drop c G))) ≡ None
          → SideBySide G E k (n * cells (drop c G) - k % cells (drop c G))
      around-side out =
          rw (take-append-drop c G, take-append-drop c E) at
          (outside-side (take c G) (drop c G) (take c E) (drop c E) k n (same-take G E c b.same few) some_after
          (omega (arith, b.lt, ap cells (take-append-drop c G))) run out)

  -- axis i is the last on which they differ
  pub side-here : (i n : ℕ) (x y : Axis) → i < length G → drop i G ≡ x ∷ drop (i + 1) G → drop i E ≡ y ∷ drop (i + 1) E
      → SameLimits (drop (i + 1) G) (drop (i + 1) E) → SideLeft x y (cells (drop (i + 1) G)) k n → SideBySide G E k n
  side-here i n x y h p q s left =
      let X = drop (i + 1) G in
      let Y = drop (i + 1) E in
      let g : take i G ++ x ∷ X ≡ G = ap (λ (l : List Axis). take i G ++ l) (sym p) ∙ take-append-drop i G in
      let e : take i E ++ y ∷ Y ≡ E = ap (λ (l : List Axis). take i E ++ l) (sym q) ∙ take-append-drop i E in
      let lt : k < cells (take i G ++ x ∷ X) = omega (arith, b.lt, ap cells g) in
      rw (g, e) at (uneven-side (take i G) (take i E) X Y x y (same-take G E i b.same (omega arith)) s k n lt left)

-- one axis more with the same limits
pub limits-on : (G E : List Axis) (i : ℕ) (x y : Axis) → drop i G ≡ x ∷ drop (i + 1) G → drop i E ≡ y ∷ drop (i + 1) E
    → same_limits x y ≡ true → SameLimits (drop (i + 1) G) (drop (i + 1) E) → SameLimits (drop i G) (drop i E)
limits-on G E i x y p q t s =
    rw (p, q) (eqb-true _ _ (and_left (eqb x.lo y.lo) _ t), eqb-true _ _ (and_right (eqb x.lo y.lo) _ t), s)
