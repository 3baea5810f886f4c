-- Axes before and axes after: the cells, offsets and coordinates of two extents put together; and, by an axis's index from 1, an
-- axis taken out of an extent and a position taken out of a coordinate or put in.
use Rattle.std.specs.Prelude.{ℕ, suc, ◌+◌, ◌-◌, ◌*◌, ◌/◌, ◌%◌, ◌≤◌, ◌<◌, ◌≡◌, List, [], ◌∷◌, ◌++◌, length, get_or, take}
use Rattle.std.proofs.Math.Path.{sym, ap}
use Rattle.std.proofs.Common.{ap₂, subst, ◌∙◌, one-mul, zero-add, add-mul, add_assoc, mul_comm, mod-lt, zero-mul, mod-eq_of_lt, arith, length-append, length-take, length-drop, drop-cons, length-take-le, take_at, drop_at}
use Rattle.std.proofs.Math.Nat.{mul_assoc, div-div-eq-div-mul}
use Rattle.std.proofs.Math.Arith.{digits_div, digits_mod, mod-mul}
use Rattle.std.proofs.Math.ListN.{drop}
use Rattle.std.proofs.Math.Seq.{split_at, drop-append-add}
use Rattle.paper.specs.declared.Axis.{Axis}
use Rattle.paper.specs.Axes.{width, cells, offset, at_offset, axis_at, without, put_in}
use Rattle.laws.specs.Places.{Inside, left-pos, right-pos, inside-length}
use Rattle.laws.specs.Limits.{Sound, sound-take, sound-drop}

-- ---- two extents put together

pub cells-append : (E F : List Axis) → cells (E ++ F) ≡ cells E * cells F
unfolding cells
cells-append [] F = sym (one-mul (cells F))
cells-append (a ∷ E) F = ap (λ n. width a * n) (cells-append E F) ∙ sym (mul_assoc (width a) (cells E) (cells F))

-- an offset: that of the axes before, times the cells of the axes after, plus that of the axes after
pub offset-append : (E F : List Axis) (p q : List ℕ) → length p ≡ length E → offset (E ++ F) (p ++ q) ≡ offset E p * cells F + offset F q
unfolding offset
offset-append [] F [] q h = rw zero-mul (sym (zero-add (offset F q)))
offset-append [] F (x ∷ p) q h = absurd (omega arith)
offset-append (a ∷ E) F [] q h = absurd (omega arith)
offset-append (a ∷ E) F (x ∷ p) q h =
    ap₂ (λ (m n : ℕ). (x - a.lo) * m + n) (cells-append E F) (offset-append E F p q (omega arith))
    ∙ ap (λ (n : ℕ). n + (offset E p * cells F + offset F q)) (sym (mul_assoc (x - a.lo) (cells E) (cells F)))
    ∙ sym (add_assoc ((x - a.lo) * cells E * cells F) (offset E p * cells F) (offset F q))
    ∙ ap (λ (n : ℕ). n + offset F q) (sym (add-mul ((x - a.lo) * cells E) (offset E p) (cells F)))

-- a coordinate, likewise
pub at_offset-append : (E F : List Axis) (k : ℕ) → k < cells (E ++ F)
    → at_offset (E ++ F) k ≡ at_offset E (k / cells F) ++ at_offset F (k % cells F)
unfolding at_offset cells
at_offset-append [] F k h = ap (at_offset F) (sym (mod-eq_of_lt h))
at_offset-append (a ∷ E) F k h =
    let c : 0 < cells (E ++ F) = right-pos (width a) (cells (E ++ F)) k h in
    let j = mod-lt k c in
    let g : k % cells (E ++ F) < cells E * cells F = rw (← cells-append E F) j in
    let e = left-pos (cells E) (cells F) _ g in
    let f = right-pos (cells E) (cells F) _ g in
    let r = mod-lt k f in
    let m : k % cells (E ++ F) ≡ k / cells F % cells E * cells F + k % cells F = ap (λ (n : ℕ). k % n) (cells-append E F) ∙ mod-mul k e f in
    let d : k / cells (E ++ F) ≡ k / cells F / cells E = ap (λ (n : ℕ). k / n) (cells-append E F ∙ mul_comm (cells E) (cells F)) ∙ sym (div-div-eq-div-mul k (cells F) (cells E)) in
    ap₂ (λ (x : ℕ) (l : List ℕ). (a.lo + x) ∷ l) d
    (at_offset-append E F (k % cells (E ++ F)) j
    ∙ ap₂ (λ (x y : ℕ). at_offset E x ++ at_offset F y)
    (ap (λ (n : ℕ). n / cells F) m ∙ digits_div (k / cells F % cells E) r)
    (ap (λ (n : ℕ). n % cells F) m ∙ digits_mod (k / cells F % cells E) r))

pub inside-append : (E F : List Axis) (p q : List ℕ) → Inside E p → Inside F q → Inside (E ++ F) (p ++ q)
inside-append [] F [] q h k = k
inside-append [] F (x ∷ p) q h k = absurd h
inside-append (a ∷ E) F [] q h k = absurd h
inside-append (a ∷ E) F (x ∷ p) q h k = (h.0, h.1, inside-append E F p q h.2 k)

pub inside-split : (E F : List Axis) (p : List ℕ) → Inside (E ++ F) p → Inside E (take (length E) p) × Inside F (drop (length E) p)
inside-split [] F p h = (tt, h)
inside-split (a ∷ E) F [] h = absurd h
inside-split (a ∷ E) F (x ∷ p) h = let r = inside-split E F p h.2 in ((h.0, h.1, r.0), r.1)

-- slice and place: a coordinate with one axis fewer, and a position put in where that axis was
pub inside-insert : (pre post : List Axis) (a : Axis) (x : ℕ) (p : List ℕ) → Inside (pre ++ post) p → a.lo ≤ x → x ≤ a.hi
    → Inside (pre ++ a ∷ post) (take (length pre) p ++ x ∷ drop (length pre) p)
inside-insert pre post a x p h l u =
    let r = inside-split pre post p h in
    inside-append pre (a ∷ post) (take (length pre) p) (x ∷ drop (length pre) p) r.0 (l, u, r.1)

pub sound-append : (E F : List Axis) → Sound E → Sound F → Sound (E ++ F)
sound-append [] F h k = k
sound-append (a ∷ E) F h k = (h.0, h.1, sound-append E F h.2 k)

-- ---- by an index, from 1

-- an index that stands right after some of a list
module _ {X : Type 0} (k : ℕ) (before : List X) (x : X) (after : List X) (one : 1 ≤ k) (here : length before ≡ k - 1) where
  pub without_at : without k (before ++ x ∷ after) ≡ before ++ after
  without_at =
      let e : length before + 1 ≡ k = omega arith in
      ap₂ (λ (a b : List X). a ++ b) (take_at before (x ∷ after) (k - 1) here)
      (ap (λ (n : ℕ). drop n (before ++ x ∷ after)) (sym e) ∙ drop-append-add before (x ∷ after) 1)

  pub put_in-at : put_in k x (before ++ after) ≡ before ++ x ∷ after
  put_in-at = ap₂ (λ (a b : List X). a ++ x ∷ b) (take_at before after (k - 1) here) (drop_at before after (k - 1) here)

pub length_before : {X : Type 0} (k : ℕ) (l : List X) → k ≤ length l + 1 → length (take (k - 1) l) ≡ k - 1
length_before k l h = length-take-le (k - 1) l (omega arith)

module _ {X : Type 0} (k : ℕ) (l : List X) (d : X) (one : 1 ≤ k) (last : k ≤ length l) where
  -- a list is what stands before an index, what stands there and what stands after it
  pub at-index : l ≡ take (k - 1) l ++ get_or l (k - 1) d ∷ drop k l
  at-index =
      let e : suc (k - 1) ≡ k = omega arith in
      split_at l (k - 1) d (omega arith) ∙ ap (λ (n : ℕ). take (k - 1) l ++ get_or l (k - 1) d ∷ drop n l) e

  pub drop-index : drop (k - 1) l ≡ get_or l (k - 1) d ∷ drop k l
  drop-index =
      let e : suc (k - 1) ≡ k = omega arith in
      drop-cons l (k - 1) d (omega arith) ∙ ap (λ (n : ℕ). get_or l (k - 1) d ∷ drop n l) e

  -- what was taken out and put in again
  pub put_in-without : put_in k (get_or l (k - 1) d) (without k l) ≡ l
  put_in-without = put_in-at k (take (k - 1) l) (get_or l (k - 1) d) (drop k l) one (length_before k l (omega arith)) ∙ sym at-index

-- ---- an axis taken out

module _ (k : ℕ) (E : List Axis) (one : 1 ≤ k) (last : k ≤ length E) where
  pub axes-at : E ≡ take (k - 1) E ++ axis_at k E ∷ drop k E
  axes-at = at-index k E _ one last

  pub cells-without : cells E ≡ width (axis_at k E) * cells (without k E)
  unfolding cells
  cells-without =
      ap cells axes-at
      ∙ cells-append (take (k - 1) E) (axis_at k E ∷ drop k E)
      ∙ sym (mul_assoc (cells (take (k - 1) E)) (width (axis_at k E)) (cells (drop k E)))
      ∙ ap (λ (n : ℕ). n * cells (drop k E)) (mul_comm (cells (take (k - 1) E)) (width (axis_at k E)))
      ∙ mul_assoc (width (axis_at k E)) (cells (take (k - 1) E)) (cells (drop k E))
      ∙ ap (λ (n : ℕ). width (axis_at k E) * n) (sym (cells-append (take (k - 1) E) (drop k E)))

  pub sound-without : Sound E → Sound (without k E)
  sound-without s = sound-append (take (k - 1) E) (drop k E) (sound-take E (k - 1) s) (sound-drop E k s)

  -- a coordinate of the axes left, with a position of the axis taken out put in
  pub inside-put_in : (x : ℕ) (p : List ℕ) → Inside (without k E) p → (axis_at k E).lo ≤ x → x ≤ (axis_at k E).hi → Inside E (put_in k x p)
  inside-put_in x p h l u =
      let b = length_before k E (omega arith) in
      let r = inside-insert (take (k - 1) E) (drop k E) (axis_at k E) x p h l u in
      subst (λ (G : List Axis). Inside G (put_in k x p)) (sym axes-at) (subst (λ (n : ℕ). Inside (take (k - 1) E ++ axis_at k E ∷ drop k E) (take n p ++ x ∷ drop n p)) b r)

  module _ (p : List ℕ) (h : Inside E p) where
    -- before the axis, and from it on
    inside-parts : Inside (take (k - 1) E) (take (k - 1) p) × Inside (axis_at k E ∷ drop k E) (get_or p (k - 1) 0 ∷ drop k p)
    inside-parts =
        let b = length_before k E (omega arith) in
        let e = inside-length E p h in
        let g = subst (λ (G : List Axis). Inside G p) axes-at h in
        let r = subst (λ (n : ℕ). Inside (take (k - 1) E) (take n p) × Inside (axis_at k E ∷ drop k E) (drop n p)) b (inside-split (take (k - 1) E) (axis_at k E ∷ drop k E) p g) in
        (r.0, subst (λ (q : List ℕ). Inside (axis_at k E ∷ drop k E) q) (drop-index k p 0 one (omega arith)) r.1)

    -- its position is one of the axis, and the rest is a coordinate of the axes left
    pub inside-axis : ((axis_at k E).lo ≤ get_or p (k - 1) 0) × (get_or p (k - 1) 0 ≤ (axis_at k E).hi)
    inside-axis = let r = inside-parts in (r.1.0, r.1.1)

    pub inside-without : Inside (without k E) (without k p)
    inside-without = let r = inside-parts in inside-append (take (k - 1) E) (drop k E) (take (k - 1) p) (drop k p) r.0 r.1.2

    -- which put together are the coordinate
    pub inside-again : put_in k (get_or p (k - 1) 0) (without k p) ≡ p
    inside-again = let e = inside-length E p h in put_in-without k p 0 one (omega arith)

-- as many without one of an index
pub without-many : {X Y : Type 0} (k : ℕ) (l : List X) (m : List Y) → length l ≡ length m → length (without k l) ≡ length (without k m)
without-many k l m e =
    omega (
      arith,
      e,
      length-append (take (k - 1) l) (drop k l),
      length-take (k - 1) l,
      length-drop k l,
      length-append (take (k - 1) m) (drop k m),
      length-take (k - 1) m,
      length-drop k m,
    )
