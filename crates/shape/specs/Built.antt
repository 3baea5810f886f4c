-- An extent built axis by axis: with each axis it has one more, and nothing past the last. With an axis left out it is the paper's
-- `without`.
use Rattle.std.specs.Prelude.{ℕ, suc, ◌+◌, ◌-◌, ◌≤◌, ◌<◌, ◌≡◌, refl, Bool, true, false, List, [], ◌∷◌, ◌++◌, leb, length, get_or, take, drop, set, replicate}
use Rattle.std.proofs.Common.{sym, ap, ap₂, ◌∙◌, append_assoc, append-nil, add-one, arith, leb-true, leb-false, length-append, length-take, length-drop, drop_of_length-le, take-suc, take_all}
use Rattle.std.proofs.Math.Seq.{take-nil, drop-nil}
use Rattle.std.proofs.lemmas.List.{set_at, take-append-le, drop-append-le}
use Rattle.paper.specs.declared.Axis.{Axis}
use Rattle.paper.specs.declared.Extent.{Extent}
use Rattle.paper.specs.Limits.{most_axes}
use Rattle.paper.specs.Axes.{no_axis, without}
use Rattle.paper.specs.Answers.{extent_of}

-- there is room for one axis more
pub record Room (e : Extent) : Type 0 where
  pub more : e.rank < most_axes

abbrev pub with_axis : Extent → Axis → Extent
with_axis e a = record { rank = e.rank + 1; axes = set e.axes e.rank a }

padded : (n k : ℕ) → n < k → replicate (k - n) no_axis ≡ no_axis ∷ replicate (k - (n + 1)) no_axis
padded n k h = let e : k - n ≡ suc (k - (n + 1)) = omega arith in rw e

-- one more at the end
one_more : {X : Type 0} (m : List X) (x : X) → length (m ++ (x ∷ [])) ≡ length m + 1
one_more m x = length-append m (x ∷ [])

module _ (E : List Axis) (a : Axis) (room : length E < most_axes) where
  pub with-axis : with_axis (extent_of E) a ≡ extent_of (E ++ (a ∷ []))
  with-axis =
      let p = ap (λ (l : List Axis). set (E ++ l) (length E) a) (padded (length E) most_axes room) ∙ set_at E no_axis (replicate (most_axes - (length E + 1)) no_axis) a (length E) refl in
      let q : E ++ (a ∷ replicate (most_axes - (length E + 1)) no_axis) ≡ (E ++ (a ∷ [])) ++ replicate (most_axes - length (E ++ (a ∷ []))) no_axis =
      rw (one_more E a, append_assoc) in
      ap₂ {C = Extent} (λ (n : ℕ) (l : List Axis). record { rank = n; axes = l }) (sym (one_more E a)) (p ∙ q)

-- the first i + 1 of a list
pub take_more : {X : Type 0} (l : List X) (i : ℕ) (d : X) → i < length l → take (i + 1) l ≡ take i l ++ (get_or l i d ∷ [])
take_more l i d h = rw (add-one i) (take-suc l i d h)

-- the first of a list W of axes, one more
module _ (W : List Axis) (i : ℕ) (here : i < length W) (few : length W ≤ most_axes) where
  first-few : length (take i W) ≡ i
  first-few = simp length-take (omega arith)

  pub room_for : (e : Extent) → e ≡ extent_of (take i W) → Room e
  room_for e q = record { more = omega (arith, ap (λ (x : Extent). x.rank) q, first-few) }

  pub first_more : (e : Extent) (a : Axis) → e ≡ extent_of (take i W) → a ≡ get_or W i no_axis → with_axis e a ≡ extent_of (take (i + 1) W)
  first_more e a q f = ap₂ with_axis q f ∙ with-axis (take i W) (get_or W i no_axis) (omega (arith, first-few)) ∙ ap extent_of (sym (take_more W i no_axis here))

-- ---- without an axis

module _ {X : Type 0} (k : ℕ) (m : List X) (x : X) where
  -- the one added is left out
  pub without-it : length m + 1 ≡ k → without k (m ++ (x ∷ [])) ≡ without k m
  without-it e =
      let p : take (k - 1) (m ++ (x ∷ [])) ≡ take (k - 1) m = take-append-le (k - 1) m (x ∷ []) (omega arith) in
      let q : drop k (m ++ (x ∷ [])) ≡ [] = drop_of_length-le (m ++ (x ∷ [])) {i = k} (omega (arith, one_more m x)) in
      let s : drop k m ≡ [] = drop_of_length-le m {i = k} (omega arith) in
      ap₂ (λ (a b : List X). a ++ b) p (q ∙ sym s)

  -- another is
  pub without_other : (length m + 1 ≡ k → ⊥) → without k (m ++ (x ∷ [])) ≡ without k m ++ (x ∷ [])
  without_other n = by (leb k (length m)) refl
    where
      by : (b : Bool) → leb k (length m) ≡ b → without k (m ++ (x ∷ [])) ≡ without k m ++ (x ∷ [])
      by true e =
          let l = leb-true k (length m) e in
          ap₂ (λ (a b : List X). a ++ b) (take-append-le (k - 1) m (x ∷ []) (omega arith)) (drop-append-le k m (x ∷ []) l)
          ∙ sym (append_assoc (take (k - 1) m) (drop k m) (x ∷ []))
      by false e =
          let l : length m + 2 ≤ k = omega (arith, leb-false k (length m) e, n) in
          let p : take (k - 1) (m ++ (x ∷ [])) ≡ m ++ (x ∷ []) = take_all (k - 1) (m ++ (x ∷ [])) (omega (arith, one_more m x)) in
          let q : drop k (m ++ (x ∷ [])) ≡ [] = drop_of_length-le (m ++ (x ∷ [])) {i = k} (omega (arith, one_more m x)) in
          let s : take (k - 1) m ≡ m = take_all (k - 1) m (omega arith) in
          let t : drop k m ≡ [] = drop_of_length-le m {i = k} (omega arith) in
          ap₂ (λ (a b : List X). a ++ b) p q ∙ append-nil (m ++ (x ∷ []))
          ∙ sym (ap₂ (λ (a b : List X). (a ++ b) ++ (x ∷ [])) s t ∙ ap (λ (a : List X). a ++ (x ∷ [])) (append-nil m))

pub without-none : {X : Type 0} (k : ℕ) → ◌≡◌ {A = List X} (without k []) []
without-none {X} k = ap₂ (λ (a b : List X). a ++ b) (take-nil (k - 1)) (drop-nil k)

pub few-without : {X : Type 0} (k : ℕ) (l : List X) → length (without k l) ≤ length l
few-without k l = omega (arith, length-append (take (k - 1) l) (drop k l), length-take (k - 1) l, length-drop k l)

module _ (k : ℕ) (E : List Axis) (i : ℕ) (here : i < length E) (few : length E ≤ most_axes) where
  -- how many there are before axis i
  without-few : length (without k (take i E)) < most_axes
  without-few = omega (arith, few-without k (take i E), length-take i E)

  pub room-without : (e : Extent) → e ≡ extent_of (without k (take i E)) → Room e
  room-without e q = record { more = omega (arith, ap (λ (x : Extent). x.rank) q, without-few) }

  n : length (take i E) ≡ i
  n = simp length-take (omega arith)

  -- and with it, where it is left out, and where another is
  pub without-same : (e : Extent) → e ≡ extent_of (without k (take i E)) → i + 1 ≡ k → e ≡ extent_of (without k (take (i + 1) E))
  without-same e q h =
      q ∙ ap extent_of (sym (ap (without k) (take_more E i no_axis here) ∙ without-it k (take i E) (get_or E i no_axis) (omega (arith, n, h))))

  pub without_more : (e : Extent) (a : Axis) → e ≡ extent_of (without k (take i E)) → a ≡ get_or E i no_axis → (i + 1 ≡ k → ⊥)
      → with_axis e a ≡ extent_of (without k (take (i + 1) E))
  without_more e a q f h =
      ap₂ with_axis q f ∙ with-axis (without k (take i E)) (get_or E i no_axis) without-few
      ∙ ap extent_of (sym (ap (without k) (take_more E i no_axis here) ∙ without_other k (take i E) (get_or E i no_axis) (λ e. h (omega (arith, n, e)))))
