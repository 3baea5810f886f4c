-- Place: B lies on one position of an axis that it lacks. With that axis put in, of that one position, B is an extent with A's axes, and
-- a coordinate is found in it as the paper has it: by its position on the axis, and by its others in B.
use Rattle.std.specs.Prelude.{ℕ, suc, ◌+◌, ◌-◌, ◌*◌, ◌≤◌, ◌<◌, ◌≡◌, refl, Bool, List, ◌∷◌, length, get_or, take, drop, Some, None, Option}
use Rattle.std.proofs.Common.{sym, ap, ◌∙◌, one-mul, take-append-drop, length-append, length-drop, get_or-take, get_or-drop, get_or-append-add}
use Rattle.std.proofs.Math.Bool.{true, false}
use Rattle.std.proofs.Math.Nat.{zero-mul, zero-add}
use native.Mathlib.Omega.{arith}
use Rattle.std.proofs.Math.ListN.{get_or-append}
use Rattle.std.proofs.lemmas.List.{get_or_at}
use Rattle.paper.specs.declared.Axis.{Axis}
use Rattle.paper.specs.Limits.{reach, most_axes}
use Rattle.paper.specs.Numbers.{alike, position_at}
use Rattle.paper.specs.Axes.{cells, limited, on_axis, offset, no_axis, axis_at, without, put_in}
use Rattle.paper.specs.Recipe.{Step}
use Rattle.laws.specs.Places.{on_axis-true, true-on_axis}
use Rattle.laws.specs.Limits.{sound-take, sound-drop}
use Rattle.laws.specs.Joins.{cells-append, sound-append, at-index, length_before}
use Rattle.extent.specs.Judged.{Small}
use Rattle.origin.specs.Origins.{found_in}
use Rattle.origin.specs.Found.{joined, found-both}

-- ---- an axis put in

-- there is an index for it, and room
pub record Insertable (k : ℕ) (F : List Axis) : Type 0 where
  pub one : 1 ≤ k
  pub last : k ≤ length F + 1
  pub room : length F < most_axes

module _ {k : ℕ} {F : List Axis} (h : Insertable k F) (a : Axis) where
  before-it : length (take (k - 1) F) ≡ k - 1
  before-it = let l = h.last in length_before k F l

  pub length-in : length (put_in k a F) ≡ length F + 1
  length-in =
      let l = h.last in
      let o = h.one in
      length-append (take (k - 1) F) (a ∷ drop (k - 1) F) ∙ omega (arith, before-it, length-drop (k - 1) F)

  -- the axis of each index, from 1
  module _ (j : ℕ) (one : 1 ≤ j) where
    pub axis-before : j < k → axis_at j F ≡ axis_at j (put_in k a F)
    axis-before l =
        sym (get_or-append (take (k - 1) F) (a ∷ drop (k - 1) F) no_axis (j - 1) (omega (arith, before-it))
        ∙ get_or-take (k - 1) F (j - 1) no_axis (omega arith))

    pub axis-here : j ≡ k → a ≡ axis_at j (put_in k a F)
    axis-here e = sym (get_or_at (take (k - 1) F) a (drop (k - 1) F) no_axis (j - 1) (before-it ∙ ap (λ (n : ℕ). n - 1) (sym e)))

    pub axis-behind : k < j → axis_at (j - 1) F ≡ axis_at j (put_in k a F)
    axis-behind l =
        let o = h.one in
        let e : length (take (k - 1) F) + suc (j - k - 1) ≡ j - 1 = omega (arith, before-it) in
        let f : k - 1 + (j - k - 1) ≡ j - 1 - 1 = omega arith in
        sym (ap (λ (n : ℕ). get_or (put_in k a F) n no_axis) (sym e)
        ∙ get_or-append-add (take (k - 1) F) (a ∷ drop (k - 1) F) (suc (j - k - 1)) no_axis
        ∙ get_or-drop (k - 1) F (j - k - 1) no_axis ∙ ap (λ (n : ℕ). get_or F n no_axis) f)

-- ---- an axis of one position
abbrev pub spot : ℕ → Axis
spot x = limited x x

outside-right : (n : ℕ) (f : Option ℕ) → joined n f None ≡ None
outside-right n (Some i) = refl
outside-right n None = refl

module _ (x y : ℕ) (F : List Axis) (q : List ℕ) where
  spot_on : y ≡ x → found_in (spot x ∷ F) (y ∷ q) ≡ found_in F q
  unfolding found_in alike offset
  spot_on e =
      let z : x - x ≡ 0 = omega arith in
      rw (e, true-on_axis (spot x) x (omega arith) (omega arith), z, zero-mul (cells F), zero-add (offset F q))

  spot-off : (y ≡ x → ⊥) → found_in (spot x ∷ F) (y ∷ q) ≡ None
  unfolding found_in alike
  spot-off n = rw (off (on_axis (spot x) y) refl)
    where
      off : (b : Bool) → on_axis (spot x) y ≡ b → on_axis (spot x) y ≡ false
      off true e = let l = on_axis-true (spot x) y e in absurd (n (omega (arith, l.0, l.1)))
      off false e = e

cells-spot : (x : ℕ) (F : List Axis) → cells (spot x ∷ F) ≡ cells F
unfolding cells
cells-spot x F = let w : x + 1 - x ≡ 1 = omega arith in rw w (one-mul (cells F))

-- B with that axis put in, as the step tells
abbrev pub patch : Step → List Axis → List Axis
patch st F = put_in st.axis (spot (position_at 0 st.detail)) F

-- F laid at position x of axis k is found as F with that axis put in
module _ (k x : ℕ) (F : List Axis) (p : List ℕ) (one : 1 ≤ k) (last : k ≤ length p) (same : length p ≡ length F + 1) where
  abbrev pre : List Axis
  pre = take (k - 1) F

  abbrev post : List Axis
  post = drop (k - 1) F

  abbrev before : List ℕ
  before = take (k - 1) p

  abbrev after : List ℕ
  after = drop k p

  abbrev y : ℕ
  y = get_or p (k - 1) 0

  fits : length before ≡ length pre
  fits = length_before k p (omega arith) ∙ sym (length_before k F (omega arith))

  parted : found_in (put_in k (spot x) F) p ≡ joined (cells post) (found_in pre before) (found_in (spot x ∷ post) (y ∷ after))
  parted =
      ap (found_in (put_in k (spot x) F)) (at-index k p 0 one last) ∙ found-both pre (spot x ∷ post) before (y ∷ after) fits
      ∙ ap (λ (n : ℕ). joined n (found_in pre before) (found_in (spot x ∷ post) (y ∷ after))) (cells-spot x post)

  pub patch-on : y ≡ x → found_in (put_in k (spot x) F) p ≡ found_in F (without k p)
  patch-on e =
      parted ∙ ap (joined (cells post) (found_in pre before)) (spot_on x y post after e)
      ∙ sym (ap (λ (E : List Axis). found_in E (without k p)) (sym (take-append-drop (k - 1) F)) ∙ found-both pre post before after fits)

  pub patch-off : (y ≡ x → ⊥) → found_in (put_in k (spot x) F) p ≡ None
  patch-off n =
      parted ∙ ap (joined (cells post) (found_in pre before)) (spot-off x y post after n)
      ∙ outside-right (cells post) (found_in pre before)

-- it has F's cells
pub small-patch : (k x : ℕ) (F : List Axis) → Small F → x ≤ 2 * reach → Small (put_in k (spot x) F)
small-patch k x F s h =
    let c : cells (put_in k (spot x) F) ≡ cells F =
    cells-append (take (k - 1) F) (spot x ∷ drop (k - 1) F) ∙ ap (λ (n : ℕ). cells (take (k - 1) F) * n) (cells-spot x (drop (k - 1) F))
    ∙ sym (ap cells (sym (take-append-drop (k - 1) F)) ∙ cells-append (take (k - 1) F) (drop (k - 1) F)) in
    record {
      sound = sound-append (take (k - 1) F) (spot x ∷ drop (k - 1) F)
          (sound-take F (k - 1) s.sound) (omega arith, h, sound-drop F (k - 1) s.sound);
      few = omega (arith, c, s.few);
    }
