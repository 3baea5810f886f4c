-- Two arrays agree exactly where paper 01's words on axis count, names and limits are met: request [3] tells more of a refusal 8, and gives
-- none that was not given. Its figure is 4, or names an axis of A.
use Prim.Native.Nat.{ℕ, zero, suc, ◌+◌, ◌-◌, ◌*◌, ◌≤◌, ◌<◌}
use Rattle.std.specs.Prelude.{◌≡◌, Bool, true, false, ◌&&◌, ◌||◌, List, [], ◌∷◌, ◌++◌, ◌⊎◌, eqb, length, take, if◌then◌else◌}
use Rattle.std.proofs.Math.Path.{refl, sym, ap}
use Rattle.std.proofs.Common.{ap₂, ◌∙◌, inl, inr, arith, eqb-true, eq-eqb, ne_eqb}
use Rattle.std.proofs.Math.Bool.{not}
use Rattle.std.proofs.lemmas.Bool.{eqb-false}
use Rattle.std.proofs.Math.ListN.{drop}
use Rattle.paper.specs.declared.Name.{Name}
use Rattle.paper.specs.declared.Axis.{Axis}
use Rattle.paper.specs.declared.PairOp.{PairOp}
use Rattle.paper.specs.declared.Move.TheVariants.{Trim, Slice, Reshape, Shift, Rename, Update, Put, Glue}
use Rattle.paper.specs.declared.Work.TheVariants.{Pair, Scalar, Single}
use Rattle.paper.specs.declared.Operation.{Operation}
use Rattle.paper.specs.declared.Operation.TheVariants.{Moves, Works}
use Rattle.paper.specs.Numbers.{from, alike}
use Rattle.paper.specs.Axes.{same_name, name_at, axis_at, without}
use Rattle.paper.specs.Recipe.{as_many, axis_differs, in_step, first_difference, indices, agree}
use Rattle.laws.specs.Tests.{and-true, and-crossed}
use Rattle.laws.specs.Joins.{without-many}
use Rattle.laws.specs.Places.{length_from}
use Rattle.laws.specs.Alike.{same_limits}

-- ---- one axis, and axes in step

-- nothing differs exactly if the name is the same, and the limits where they are compared
axis-agrees : (t : Bool) (m : Name) (a : Axis) (n : Name) (b : Axis)
    → eqb (axis_differs t m a n b) 0 ≡ (same_name m n && (not t || same_limits a b))
unfolding axis_differs
axis-agrees t m a n b = by t (same_name m n) (eqb a.lo b.lo) (eqb a.hi b.hi)
  where
    by : (t x y z : Bool)
        → eqb (if not x then 1 else (if t && not y then 2 else (if t && not z then 3 else 0))) 0 ≡ (x && (not t || (y && z)))
    by t false y z = refl
    by false true y z = refl
    by true true false z = refl
    by true true true false = refl
    by true true true true = refl

-- neither the first nor a later one
first-agrees : (i d r : ℕ) → eqb (if eqb d 0 then r else 10 * i + d) 0 ≡ (eqb d 0 && eqb r 0)
first-agrees i d r = by (eqb d 0) refl
  where
    by : (t : Bool) → eqb d 0 ≡ t → eqb (if t then r else 10 * i + d) 0 ≡ (t && eqb r 0)
    by true e = refl
    by false e = ne_eqb (10 * i + d) 0 (λ z. eqb-false d 0 e (omega (arith, z)))

-- names alone
names-agree : (I : List ℕ) (M N : List Name) (E F : List Axis) → length I ≡ length M → length M ≡ length N
    → eqb (in_step (λ i. false) I M E N F) 0 ≡ alike same_name M N
unfolding in_step alike
names-agree [] [] [] E F l m = refl
names-agree [] [] (n ∷ N) E F l m = absurd (omega (arith, m))
names-agree [] (m ∷ M) N E F l k = absurd (omega (arith, l))
names-agree (i ∷ I) [] N E F l m = absurd (omega (arith, l))
names-agree (i ∷ I) (m ∷ M) [] E F l k = absurd (omega (arith, k))
names-agree (i ∷ I) (m ∷ M) (n ∷ N) E F l k =
    let a = axis_at 1 E in
    let b = axis_at 1 F in
    first-agrees i (axis_differs false m a n b) (in_step (λ i. false) I M (drop 1 E) N (drop 1 F))
    ∙ ap₂ (λ (x y : Bool). x && y) (axis-agrees false m a n b ∙ and-true (same_name m n))
    (names-agree I M N (drop 1 E) (drop 1 F) (omega (arith, l)) (omega (arith, k)))

-- limits from index s on, where f says so
abbrev limits_from : (ℕ → Bool) → ℕ → List Axis → List Axis → Bool
limits_from f s [] [] = true
limits_from f s [] (b ∷ F) = false
limits_from f s (a ∷ E) [] = false
limits_from f s (a ∷ E) (b ∷ F) = (not (f s) || same_limits a b) && limits_from f (suc s) E F

-- names, and those limits
both-agree : (f : ℕ → Bool) (n s : ℕ) (M N : List Name) (E F : List Axis) → length M ≡ n → length N ≡ n → length E ≡ n → length F ≡ n
    → eqb (in_step f (from s n) M E N F) 0 ≡ (alike same_name M N && limits_from f s E F)
unfolding in_step from alike
both-agree f zero s [] [] [] [] j k l m = refl
both-agree f zero s [] [] [] (b ∷ F) j k l m = absurd (omega (arith, m))
both-agree f zero s [] [] (a ∷ E) F j k l m = absurd (omega (arith, l))
both-agree f zero s [] (y ∷ N) E F j k l m = absurd (omega (arith, k))
both-agree f zero s (x ∷ M) N E F j k l m = absurd (omega (arith, j))
both-agree f (suc n) s [] N E F j k l m = absurd (omega (arith, j))
both-agree f (suc n) s (x ∷ M) [] E F j k l m = absurd (omega (arith, k))
both-agree f (suc n) s (x ∷ M) (y ∷ N) [] F j k l m = absurd (omega (arith, l))
both-agree f (suc n) s (x ∷ M) (y ∷ N) (a ∷ E) [] j k l m = absurd (omega (arith, m))
both-agree f (suc n) s (x ∷ M) (y ∷ N) (a ∷ E) (b ∷ F) j k l m =
    first-agrees s (axis_differs (f s) x a y b) (in_step f (from (suc s) n) M E N F)
    ∙ ap₂ (λ (v w : Bool). v && w) (axis-agrees (f s) x a y b)
    (both-agree f n (suc s) M N E F (omega (arith, j)) (omega (arith, k)) (omega (arith, l)) (omega (arith, m)))
    ∙ and-crossed (same_name x y) (not (f s) || same_limits a b) (alike same_name M N) (limits_from f (suc s) E F)

-- all limits; all behind an axis; all but those of the axis that stands after p
limits-all : (s : ℕ) (E F : List Axis) → limits_from (λ i. true) s E F ≡ alike same_limits E F
unfolding alike
limits-all s [] [] = refl
limits-all s [] (b ∷ F) = refl
limits-all s (a ∷ E) [] = refl
limits-all s (a ∷ E) (b ∷ F) = ap (λ (t : Bool). same_limits a b && t) (limits-all (suc s) E F)

limits-past : (k s : ℕ) (E F : List Axis) → k < s → limits_from (λ i. not (eqb i k)) s E F ≡ alike same_limits E F
unfolding alike
limits-past k s [] [] h = refl
limits-past k s [] (b ∷ F) h = refl
limits-past k s (a ∷ E) [] h = refl
limits-past k s (a ∷ E) (b ∷ F) h =
    rw (ne_eqb s k (λ e. omega (arith, e, h))) (ap (λ (t : Bool). same_limits a b && t) (limits-past k (suc s) E F (omega (arith, h))))

abbrev omit : ℕ → List Axis → List Axis
omit p l = take p l ++ drop (suc p) l

limits-but : (k p s : ℕ) (E F : List Axis) → s + p ≡ k → length E ≡ length F
    → limits_from (λ i. not (eqb i k)) s E F ≡ alike same_limits (omit p E) (omit p F)
unfolding alike
limits-but k zero s [] [] h l = refl
limits-but k (suc p) s [] [] h l = refl
limits-but k p s [] (b ∷ F) h l = absurd (omega (arith, l))
limits-but k p s (a ∷ E) [] h l = absurd (omega (arith, l))
limits-but k zero s (a ∷ E) (b ∷ F) h l = rw (eq-eqb s k (omega (arith, h))) (limits-past k (suc s) E F (omega (arith, h)))
limits-but k (suc p) s (a ∷ E) (b ∷ F) h l =
    rw (ne_eqb s k (λ e. omega (arith, e, h)))
    (ap (λ (t : Bool). same_limits a b && t) (limits-but k p (suc s) E F (omega (arith, h)) (omega (arith, l))))

-- ---- what paper 01 asks of each operation

-- the axis count first
count-agrees : (f : ℕ → Bool) (I : List ℕ) (M N : List Name) (E F : List Axis) (t : Bool)
    → (length E ≡ length F → eqb (in_step f I M E N F) 0 ≡ t) → eqb (first_difference f I M E N F) 0 ≡ (as_many E F && t)
unfolding first_difference
count-agrees f I M N E F t h = by (as_many E F) refl
  where
    by : (b : Bool) → as_many E F ≡ b → eqb (if b then in_step f I M E N F else 4) 0 ≡ (b && t)
    by true e = h (eqb-true (length E) (length F) e)
    by false e = refl

module _ (k : ℕ) (M : List Name) (E : List Axis) (N : List Name) (F : List Axis) (m : length M ≡ length E) (n : length N ≡ length F) where
  -- pair: all names and limits
  pub pair-agrees : (o : PairOp)
      → eqb (agree (Works (Pair o)) k M E N F) 0 ≡ (as_many E F && (alike same_name M N && alike same_limits E F))
  unfolding agree
  pair-agrees o =
      count-agrees (λ i. true) (indices E) M N E F _
      (λ e. both-agree (λ i. true) (length E) 1 M N E F m (n ∙ sym e) refl (sym e)
      ∙ ap (λ (t : Bool). alike same_name M N && t) (limits-all 1 E F))

  -- update: names
  pub update_agrees : eqb (agree (Moves Update) k M E N F) 0 ≡ (as_many E F && alike same_name M N)
  unfolding agree
  update_agrees =
      count-agrees (λ i. false) (indices E) M N E F _
      (λ e. names-agree (indices E) M N E F (length_from 1 (length E) ∙ sym m) (m ∙ e ∙ sym n))

  -- place: names, A's axis left out
  pub put-agrees : eqb (agree (Moves Put) k M E N F) 0 ≡ (as_many (without k E) F && alike same_name (without k M) N)
  unfolding agree
  put-agrees =
      count-agrees (λ i. false) (without k (indices E)) (without k M) N (without k E) F _
      (λ e. names-agree (without k (indices E)) (without k M) N (without k E) F
      (without-many k (indices E) M (length_from 1 (length E) ∙ sym m)) (without-many k M E m ∙ e ∙ sym n))

  -- glue: all names, and limits but the gluing axis's
  pub glue-agrees : 1 ≤ k
      → eqb (agree (Moves Glue) k M E N F) 0 ≡ (as_many E F && (alike same_name M N && alike same_limits (without k E) (without k F)))
  unfolding agree
  glue-agrees one =
      let p : suc (k - 1) ≡ k = omega (arith, one) in
      count-agrees (λ i. not (eqb i k)) (indices E) M N E F _
      (λ e. both-agree (λ i. not (eqb i k)) (length E) 1 M N E F m (n ∙ sym e) refl (sym e)
      ∙ ap (λ (t : Bool). alike same_name M N && t)
      (limits-but k (k - 1) 1 E F (omega (arith, one)) e
      ∙ ap (λ (j : ℕ). alike same_limits (take (k - 1) E ++ drop j E) (take (k - 1) F ++ drop j F)) p))

-- ---- what the figure names

-- d is 10 times the index of one of n axes, plus 1, 2 or 3
pub record OfAxis (n d : ℕ) : Type 0 where
  pub index : ℕ
  pub one : 1 ≤ index
  pub last : index ≤ n
  pub kind : (d ≡ 10 * index + 1) ⊎ ((d ≡ 10 * index + 2) ⊎ (d ≡ 10 * index + 3))

-- indices of n axes
abbrev Indices : ℕ → List ℕ → Type 0
Indices n [] = Unit {0}
Indices n (i ∷ I) = (1 ≤ i) × (i ≤ n) × Indices n I

from-indices : (n s m : ℕ) → 1 ≤ s → s + m ≤ n + 1 → Indices n (from s m)
unfolding from
from-indices n s zero one h = tt
from-indices n s (suc m) one h = (one, omega (arith, h), from-indices n (suc s) m (omega arith) (omega (arith, h)))

take-indices : (n p : ℕ) (I : List ℕ) → Indices n I → Indices n (take p I)
take-indices n zero I h = tt
take-indices n (suc p) [] h = tt
take-indices n (suc p) (i ∷ I) h = (h.0, h.1, take-indices n p I h.2)

drop-indices : (n p : ℕ) (I : List ℕ) → Indices n I → Indices n (drop p I)
drop-indices n zero I h = h
drop-indices n (suc p) [] h = tt
drop-indices n (suc p) (i ∷ I) h = drop-indices n p I h.2

joined-indices : (n : ℕ) (I J : List ℕ) → Indices n I → Indices n J → Indices n (I ++ J)
joined-indices n [] J h k = k
joined-indices n (i ∷ I) J h k = (h.0, h.1, joined-indices n I J h.2 k)

-- of an axis: its name, its lower limit, its upper limit, or nothing
axis-kind : (t : Bool) (x : Name) (a : Axis) (y : Name) (b : Axis) → let d : ℕ = axis_differs t x a y b in
    (d ≡ 0) ⊎ ((d ≡ 1) ⊎ ((d ≡ 2) ⊎ (d ≡ 3)))
unfolding axis_differs
axis-kind t x a y b = by (same_name x y) (t && not (eqb a.lo b.lo)) (t && not (eqb a.hi b.hi))
  where
    by : (p q r : Bool) → let d : ℕ = if not p then 1 else (if q then 2 else (if r then 3 else 0)) in
        (d ≡ 0) ⊎ ((d ≡ 1) ⊎ ((d ≡ 2) ⊎ (d ≡ 3)))
    by false q r = inr (inl refl)
    by true true r = inr (inr (inl refl))
    by true false true = inr (inr (inr refl))
    by true false false = inl refl

-- the axis of index i, or a later one
first-figure : (n i d r : ℕ) → 1 ≤ i → i ≤ n → (d ≡ 0) ⊎ ((d ≡ 1) ⊎ ((d ≡ 2) ⊎ (d ≡ 3))) → (r ≡ 0) ⊎ OfAxis n r
    → let e : ℕ = if eqb d 0 then r else 10 * i + d in (e ≡ 0) ⊎ OfAxis n e
first-figure n i d r one last (inl z) c = rw z c
first-figure n i d r one last (inr (inl z)) c = inr (rw z (record { index = i; one = one; last = last; kind = inl refl }))
first-figure n i d r one last (inr (inr (inl z))) c = inr (rw z (record { index = i; one = one; last = last; kind = inr (inl refl) }))
first-figure n i d r one last (inr (inr (inr z))) c = inr (rw z (record { index = i; one = one; last = last; kind = inr (inr refl) }))

step-figure : (n : ℕ) (f : ℕ → Bool) (I : List ℕ) (M N : List Name) (E F : List Axis) → Indices n I
    → (in_step f I M E N F ≡ 0) ⊎ OfAxis n (in_step f I M E N F)
unfolding in_step
step-figure n f [] M N E F h = inl refl
step-figure n f (i ∷ I) M N E F h =
    first-figure n i _ _ h.0 h.1 (axis-kind (f i) (name_at 1 M) (axis_at 1 E) (name_at 1 N) (axis_at 1 F))
    (step-figure n f I (drop 1 M) (drop 1 N) (drop 1 E) (drop 1 F) h.2)

-- of A's axes, whatever is compared
all-figure : (n : ℕ) (f : ℕ → Bool) (I : List ℕ) (M N : List Name) (E F : List Axis) → Indices n I
    → (first_difference f I M E N F ≡ 0) ⊎ ((first_difference f I M E N F ≡ 4) ⊎ OfAxis n (first_difference f I M E N F))
unfolding first_difference
all-figure n f I M N E F h = by (as_many E F) (step-figure n f I M N E F h)
  where
    by : (t : Bool) → (in_step f I M E N F ≡ 0) ⊎ OfAxis n (in_step f I M E N F)
        → let d : ℕ = if t then in_step f I M E N F else 4 in (d ≡ 0) ⊎ ((d ≡ 4) ⊎ OfAxis n d)
    by true (inl e) = inl e
    by true (inr c) = inr (inr c)
    by false c = inr (inl refl)

-- none, 4, or one of A's axes and what differs of it
pub figure : (op : Operation) (k : ℕ) (M : List Name) (E : List Axis) (N : List Name) (F : List Axis)
    → (agree op k M E N F ≡ 0) ⊎ ((agree op k M E N F ≡ 4) ⊎ OfAxis (length E) (agree op k M E N F))
unfolding agree
figure (Moves Trim) k M E N F = inl refl
figure (Moves Slice) k M E N F = inl refl
figure (Moves Reshape) k M E N F = inl refl
figure (Moves Shift) k M E N F = inl refl
figure (Moves Rename) k M E N F = inl refl
figure (Moves Update) k M E N F =
    all-figure (length E) (λ i. false) (indices E) M N E F (from-indices (length E) 1 (length E) (omega arith) (omega arith))
figure (Moves Put) k M E N F =
    let h = from-indices (length E) 1 (length E) (omega arith) (omega arith) in
    all-figure (length E) (λ i. false) (without k (indices E)) (without k M) N (without k E) F
    (joined-indices (length E) (take (k - 1) (indices E)) (drop k (indices E)) (take-indices (length E) (k - 1) (indices E) h)
    (drop-indices (length E) k (indices E) h))
figure (Moves Glue) k M E N F =
    all-figure (length E) (λ i. not (eqb i k)) (indices E) M N E F (from-indices (length E) 1 (length E) (omega arith) (omega arith))
figure (Works (Pair o)) k M E N F =
    all-figure (length E) (λ i. true) (indices E) M N E F (from-indices (length E) 1 (length E) (omega arith) (omega arith))
figure (Works (Scalar h o)) k M E N F = inl refl
figure (Works (Single o)) k M E N F = inl refl
