-- Two arrays that agree as an operation asks, and what that says of their axes: as many, and the limits that are compared are the same.
-- Who moves or works out cells cites these laws, never the comparison itself.
use Prim.Native.Nat.{ℕ, zero, suc, ◌+◌, ◌-◌, ◌*◌, ◌≤◌}
use Rattle.std.specs.Prelude.{◌≡◌, Bool, true, false, ◌&&◌, List, [], ◌∷◌, ◌++◌, eqb, length, take, if◌then◌else◌, Ok, Err}
use Rattle.std.proofs.Math.Path.{refl, subst}
use Rattle.std.proofs.Common.{sym, ap, arith, eqb-true, ne_eqb}
use Rattle.std.proofs.Math.Bool.{not}
use Rattle.std.proofs.lemmas.Bool.{eqb-false}
use Rattle.std.proofs.Math.ListN.{drop}
use Rattle.paper.specs.declared.Name.{Name}
use Rattle.paper.specs.declared.Axis.{Axis}
use Rattle.paper.specs.declared.PairOp.{PairOp}
use Rattle.paper.specs.declared.Move.TheVariants.{Update, Put, Glue}
use Rattle.paper.specs.declared.Work.TheVariants.{Pair}
use Rattle.paper.specs.declared.Operation.{Operation}
use Rattle.paper.specs.declared.Operation.TheVariants.{Moves, Works}
use Rattle.paper.specs.Refusals.{Res, ◌>>◌, refusal, differ8, ensure_same}
use Rattle.paper.specs.Numbers.{from}
use Rattle.paper.specs.Axes.{same_name, name_at, without}
use Rattle.paper.specs.Recipe.{as_many, axis_differs, in_step, first_difference, indices, agree}
use Rattle.laws.specs.Tests.{no_both, no-refusal}
use Rattle.laws.specs.Alike.{SameLimits}

-- they agree: nothing differs
abbrev pub Agree : Operation → ℕ → List Name → List Axis → List Name → List Axis → Type 0
Agree op k M E N F = agree op k M E N F ≡ 0

-- the test of it, passed
pub same-got : {B : Type 0} (d k : ℕ) (m : Res B) (b : B) → (ensure_same d k >> m) ≡ Ok b → (d ≡ 0) × (m ≡ Ok b)
same-got d k m b e = by (eqb d 0) refl e
  where
    by : (t : Bool) → eqb d 0 ≡ t → ((if t then Ok tt else Err (refusal differ8 k d)) >> m) ≡ Ok b → (d ≡ 0) × (m ≡ Ok b)
    by true q h = (eqb-true d 0 q, h)
    by false q h = absurd (no-refusal _ b h)

-- ---- one axis

-- nothing differs: the limits are the same, where they are compared
axis-same : (t : Bool) (m n : Name) (a b : Axis) → t ≡ true → axis_differs t m a n b ≡ 0 → (a.lo ≡ b.lo) × (a.hi ≡ b.hi)
unfolding axis_differs
axis-same false m n a b z e = absurd (no_both true refl (sym z))
axis-same true m n a b z e = by (same_name m n) (eqb a.lo b.lo) (eqb a.hi b.hi) refl refl e
  where
    by : (x y z : Bool) → eqb a.lo b.lo ≡ y → eqb a.hi b.hi ≡ z
        → ◌≡◌ {A = ℕ} (if not x then 1 else (if true && not y then 2 else (if true && not z then 3 else 0))) 0
        → (a.lo ≡ b.lo) × (a.hi ≡ b.hi)
    by false y z p q h = absurd (omega (arith, h))
    by true false z p q h = absurd (omega (arith, h))
    by true true false p q h = absurd (omega (arith, h))
    by true true true p q h = (eqb-true _ _ p, eqb-true _ _ q)

-- ---- axes in step

-- neither the first nor a later one
neither : (i d r : ℕ) → (if eqb d 0 then r else 10 * i + d) ≡ 0 → (d ≡ 0) × (r ≡ 0)
neither i d r e = by (eqb d 0) refl e
  where
    by : (t : Bool) → eqb d 0 ≡ t → (if t then r else 10 * i + d) ≡ 0 → (d ≡ 0) × (r ≡ 0)
    by true q h = (eqb-true d 0 q, h)
    by false q h = absurd (eqb-false d 0 q (omega (arith, h)))

-- from index s on, where limits are compared from there on
all_same : (f : ℕ → Bool) (n s : ℕ) (M N : List Name) (E F : List Axis) → ((i : ℕ) → s ≤ i → f i ≡ true) → length E ≡ n → length F ≡ n
    → in_step f (from s n) M E N F ≡ 0 → SameLimits E F
unfolding in_step from
all_same f zero s M N [] [] h l m e = tt
all_same f zero s M N [] (b ∷ F) h l m e = absurd (omega (arith, m))
all_same f zero s M N (a ∷ E) F h l m e = absurd (omega (arith, l))
all_same f (suc n) s M N [] F h l m e = absurd (omega (arith, l))
all_same f (suc n) s M N (a ∷ E) [] h l m e = absurd (omega (arith, m))
all_same f (suc n) s M N (a ∷ E) (b ∷ F) h l m e =
    let r = neither s (axis_differs (f s) (name_at 1 M) a (name_at 1 N) b) _ e in
    let c = axis-same (f s) _ _ a b (h s (omega arith)) r.0 in
    let t = all_same f n (suc s) (drop 1 M) (drop 1 N) E F (λ i q. h i (omega (arith, q))) (omega (arith, l)) (omega (arith, m)) r.1 in
    (c.0, c.1, t)

-- a list without the one that stands after p
abbrev omit : ℕ → List Axis → List Axis
omit p l = take p l ++ drop (suc p) l

-- from index s on, where limits are compared but for the axis of index k, which stands after p
others_same : (k p n s : ℕ) (M N : List Name) (E F : List Axis) → s + p ≡ k → length E ≡ n → length F ≡ n
    → in_step (λ i. not (eqb i k)) (from s n) M E N F ≡ 0 → SameLimits (omit p E) (omit p F)
unfolding in_step from
others_same k zero zero s M N [] [] h l m e = tt
others_same k (suc p) zero s M N [] [] h l m e = tt
others_same k p zero s M N [] (b ∷ F) h l m e = absurd (omega (arith, m))
others_same k p zero s M N (a ∷ E) F h l m e = absurd (omega (arith, l))
others_same k p (suc n) s M N [] F h l m e = absurd (omega (arith, l))
others_same k p (suc n) s M N (a ∷ E) [] h l m e = absurd (omega (arith, m))
others_same k zero (suc n) s M N (a ∷ E) (b ∷ F) h l m e =
    all_same (λ i. not (eqb i k)) n (suc s) (drop 1 M) (drop 1 N) E F (λ i q. ap not (ne_eqb i k (λ z. omega (arith, q, z, h))))
    (omega (arith, l)) (omega (arith, m)) (neither s (axis_differs (not (eqb s k)) (name_at 1 M) a (name_at 1 N) b) _ e).1
others_same k (suc p) (suc n) s M N (a ∷ E) (b ∷ F) h l m e =
    let r = neither s (axis_differs (not (eqb s k)) (name_at 1 M) a (name_at 1 N) b) _ e in
    let t : not (eqb s k) ≡ true = ap not (ne_eqb s k (λ z. omega (arith, z, h))) in
    let c = axis-same (not (eqb s k)) _ _ a b t r.0 in
    (c.0, c.1, others_same k p n (suc s) (drop 1 M) (drop 1 N) E F (omega (arith, h)) (omega (arith, l)) (omega (arith, m)) r.1)

-- ---- the operations

-- as many axes, and nothing differs on them
counted : (f : ℕ → Bool) (I : List ℕ) (M N : List Name) (E F : List Axis) → first_difference f I M E N F ≡ 0
    → (length E ≡ length F) × (in_step f I M E N F ≡ 0)
unfolding first_difference
counted f I M N E F e = by (as_many E F) refl e
  where
    by : (t : Bool) → as_many E F ≡ t → (if t then in_step f I M E N F else 4) ≡ 0 → (length E ≡ length F) × (in_step f I M E N F ≡ 0)
    by true q h = (eqb-true (length E) (length F) q, h)
    by false q h = absurd (omega (arith, h))

module _ (k : ℕ) (M : List Name) (E : List Axis) (N : List Name) (F : List Axis) where
  pub update-many : Agree (Moves Update) k M E N F → length E ≡ length F
  unfolding agree
  update-many e = (counted (λ i. false) (indices E) M N E F e).0

  -- place: A's axis left out
  pub put-many : Agree (Moves Put) k M E N F → length (without k E) ≡ length F
  unfolding agree
  put-many e = (counted (λ i. false) (without k (indices E)) (without k M) N (without k E) F e).0

  pub glue-many : Agree (Moves Glue) k M E N F → length E ≡ length F
  unfolding agree
  glue-many e = (counted (λ i. not (eqb i k)) (indices E) M N E F e).0

  -- all limits but the gluing axis's
  pub glue-limits : 1 ≤ k → Agree (Moves Glue) k M E N F → SameLimits (without k E) (without k F)
  unfolding agree
  glue-limits one e =
      let c = counted (λ i. not (eqb i k)) (indices E) M N E F e in
      let n : suc (k - 1) ≡ k = omega (arith, one) in
      subst (λ (j : ℕ). SameLimits (take (k - 1) E ++ drop j E) (take (k - 1) F ++ drop j F)) n
      (others_same k (k - 1) (length E) 1 M N E F (omega (arith, one)) refl (sym c.0) c.1)

  pub pair-limits : (o : PairOp) → Agree (Works (Pair o)) k M E N F → SameLimits E F
  unfolding agree
  pair-limits o e =
      let c = counted (λ i. true) (indices E) M N E F e in
      all_same (λ i. true) (length E) 1 M N E F (λ i q. refl) refl (sym c.0) c.1
