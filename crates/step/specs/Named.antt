-- The names of a step's result: the first of an array with room for the most, and as many as the result has axes.
use Rattle.std.specs.Prelude.{ℕ, ◌+◌, ◌-◌, ◌*◌, ◌≤◌, ◌≡◌, true, List, ◌∷◌, length, take, drop}
use Rattle.std.proofs.Common.{sym, ap, ◌∙◌, arith, length-append, length-take, length-drop, length-take-le}
use Rattle.paper.specs.declared.Name.{Name}
use Rattle.paper.specs.declared.Axis.{Axis}
use Rattle.paper.specs.declared.Extent.{Extent}
use Rattle.paper.specs.declared.Operation.{Operation}
use Rattle.paper.specs.declared.Operation.TheVariants.{Moves, Works}
use Rattle.paper.specs.declared.Move.TheVariants.{Trim, Slice, Reshape, Shift, Rename, Update, Put, Glue}
use Rattle.paper.specs.Limits.{pair_bytes, limit_bytes}
use Rattle.paper.specs.Numbers.{part, signed_at, position_at, moved}
use Rattle.paper.specs.Axes.{width, limited, axis_at}
use Rattle.paper.specs.Bundle.{name_from}
use Rattle.paper.specs.Recipe.{Step, uses, axis_in, glued, renamed, result_names, result_axes}
use Rattle.paper.specs.Answers.{axes_of, names_for}
use Rattle.laws.specs.Tests.{between-true}
use Rattle.laws.specs.Joins.{without-many}
use Rattle.shape.specs.Renewed.{length-anew}
use Rattle.shape.specs.Names.{names-in-detail}

-- what an operation makes of the names of A, whose extent is e, a name in the detail having w bytes
abbrev pub NamesTold : ℕ → Operation → Step → List Name → Extent → List Name → Type 0
NamesTold w op s M e new =
    take (length (result_names w op s (names_for (axes_of e) M))) new ≡ result_names w op s (names_for (axes_of e) M)

-- A's own
pub names-kept : (E : List Axis) (M : List Name) → length E ≤ length M → take (length (names_for E M)) M ≡ names_for E M
names-kept E M h = ap (λ (n : ℕ). take n M) (length-take-le (length E) M h)

-- as many as A has axes, made anew
pub names-anew : (w : ℕ) (E : List Axis) (M new : List Name) (s : List ℕ) (at d r : ℕ) → r ≡ length E → length E ≤ length M
    → length E * w ≤ d → ((N : List Name) → length N ≡ r → take r new ≡ renamed w N (drop at s))
    → take (length (renamed w (names_for E M) (part at d s))) new ≡ renamed w (names_for E M) (part at d s)
names-anew w E M new s at d r e h l f =
    let k : length (names_for E M) ≡ length E = length-take-le (length E) M h in
    let n : length (names_for E M) ≡ r = k ∙ sym e in
    let m : length (renamed w (names_for E M) (part at d s)) ≡ r = length-anew (λ (n : Name) d. name_from (take w d)) w (names_for E M)
    (part at d s) ∙ n in
    ap (λ (k : ℕ). take k new) m ∙ f (names_for E M) n ∙ names-in-detail w (names_for E M) s at d (rw k l)

-- there are as many as axes
pub names-many : (w : ℕ) (op : Operation) (s : Step) (N : List Name) (E F : List Axis) → length N ≡ length E
    → axis_in (uses op) (length E) s.axis ≡ true → length (result_names w op s N) ≡ length (result_axes op s E F)
unfolding result_names result_axes uses glued
names-many w (Moves Trim) s N E F e h =
    e ∙ sym (length-anew (λ (a : Axis) d. limited (position_at 0 d) (position_at limit_bytes d)) pair_bytes E s.detail)
names-many w (Moves Slice) s N E F e h = without-many s.axis N E e
names-many w (Moves Reshape) s N E F e h =
    e ∙ sym (length-anew (λ (a : Axis) d. limited (position_at 0 d) (position_at limit_bytes d)) pair_bytes E s.detail)
names-many w (Moves Shift) s N E F e h =
    e ∙ sym (length-anew (λ (a : Axis) d. limited (moved a.lo (signed_at 0 d)) (moved a.hi (signed_at 0 d))) limit_bytes E s.detail)
names-many w (Moves Rename) s N E F e h = length-anew (λ (n : Name) d. name_from (take w d)) w N s.detail ∙ e
names-many w (Moves Update) s N E F e h = e
names-many w (Moves Put) s N E F e h = e
names-many w (Moves Glue) s N E F e h =
    let k = s.axis in
    let q = between-true (length E) k h in
    omega (
      arith,
      e,
      q.0,
      q.1,
      length-append (take (k - 1) E) (limited (axis_at k E).lo ((axis_at k E).hi + width (axis_at k F)) ∷ drop k E),
      length-take (k - 1) E,
      length-drop k E,
    )
names-many w (Works o) s N E F e h = e
