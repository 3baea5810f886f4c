-- Two arrays compared, by their extents and the names that stand beside these: the paper's `agree`, by what the code compares, axis by
-- axis from the first on.
use Prim.Native.Nat.{ℕ, zero, suc, ◌+◌, ◌-◌, ◌*◌, ◌≤◌, ◌<◌}
use Rattle.std.specs.Prelude.{◌≡◌, refl, Bool, true, false, not, List, [], ◌∷◌, ◌++◌, eqb, ltb, get_or, take, drop, if◌then◌else◌}
use Rattle.std.proofs.Math.Path.{sym}
use Rattle.std.proofs.Common.{ap, ap₂, ◌∙◌, arith, eq-eqb, ne_eqb, lt-ltb, le-ltb, length-take-le}
use Rattle.std.proofs.Math.Numerals.{add-one}
use Rattle.std.proofs.Math.ListN.{length}
use Rattle.paper.specs.declared.Name.{Name}
use Rattle.paper.specs.declared.Axis.{Axis}
use Rattle.paper.specs.declared.AxisIndex.{AxisIndex}
use Rattle.paper.specs.declared.Extent.{Extent}
use Rattle.paper.specs.declared.Operation.{Operation}
use Rattle.paper.specs.Numbers.{from}
use Rattle.paper.specs.Axes.{no_name, without}
use Rattle.paper.specs.Recipe.{axis_differs, in_step, first_difference, indices, agree}
use Rattle.paper.specs.Answers.{axes_of, names_for}
use Rattle.laws.specs.Loops.{drop-first-cons}
use Rattle.laws.specs.Joins.{without-many}
use Rattle.laws.specs.Places.{length_from}
use Rattle.extent.specs.Rank.{Rank, axis_no, axes-up}
use Rattle.step.specs.declared.agreeing.Compared.{Compared}
use Rattle.step.specs.declared.agreeing.Compared.TheVariants.{Names, OtherNames, Limits, OtherLimits}

-- of extents, with their names
abbrev pub agreed : Operation → ℕ → List Name → Extent → List Name → Extent → ℕ
agreed op k M e N f = agree op k (names_for (axes_of e) M) (axes_of e) (names_for (axes_of f) N) (axes_of f)

-- ---- what is compared

-- limits on A's axis of index i
abbrev pub limits_in : Compared → ℕ → Bool
limits_in Names i = false
limits_in (OtherNames k) i = false
limits_in Limits i = true
limits_in (OtherLimits k) i = not (eqb i k.0)

-- the index in A of the axis at j
abbrev pub index_in : Compared → ℕ → ℕ
index_in Names j = j + 1
index_in (OtherNames k) j = if ltb (j + 1) k.0 then j + 1 else j + 2
index_in Limits j = j + 1
index_in (OtherLimits k) j = j + 1

-- those of n axes from the one at j on
unfoldable pub indices_in : Compared → ℕ → ℕ → List ℕ
indices_in c j zero = []
indices_in c j (suc n) = index_in c j ∷ indices_in c (suc j) n

-- the axes from the one at j on
abbrev pub differing_from : Compared → ℕ → List Name → List Axis → List Name → List Axis → ℕ
differing_from c j M E N F = in_step (limits_in c) (indices_in c j (length E - j)) (drop j M) (drop j E) (drop j N) (drop j F)

-- the first difference of two extents with their names
abbrev pub differing : Compared → List Name → Extent → List Name → Extent → ℕ
differing c M e N f =
    first_difference (limits_in c) (indices_in c 0 (length (axes_of e))) (names_for (axes_of e) M) (axes_of e) (names_for (axes_of f) N) (axes_of f)

-- ---- what the loop cites

-- another number of axes
pub count-differs : (c : Compared) (M N : List Name) (e f : Extent) → (length (axes_of f) ≡ length (axes_of e) → ⊥) → 4 ≡ differing c M e N f
unfolding first_difference
count-differs c M N e f h = rw (ne_eqb (length (axes_of e)) (length (axes_of f)) (λ q. h (sym q)))

-- as many
pub count_same : (c : Compared) (M N : List Name) (e f : Extent) → length (axes_of f) ≡ length (axes_of e)
    → differing_from c 0 (names_for (axes_of e) M) (axes_of e) (names_for (axes_of f) N) (axes_of f) ≡ differing c M e N f
unfolding first_difference
count_same c M N e f h =
    let z : length (axes_of e) - 0 ≡ length (axes_of e) = omega arith in
    rw (z, eq-eqb (length (axes_of e)) (length (axes_of f)) (sym h))

module _ (c : Compared) (M N : List Name) (e f : Extent) (r s : ℕ) (k : Rank e r) (l : Rank f s) (same : s ≡ r)
    (m : r ≤ length M) (n : r ≤ length N) (j : ℕ) where
  -- from an axis on
  abbrev onward : ℕ → ℕ
  onward i = differing_from c i (names_for (axes_of e) M) (axes_of e) (names_for (axes_of f) N) (axes_of f)

  -- the axis at j
  abbrev here : ℕ
  here = axis_differs (limits_in c (index_in c j)) (get_or M j no_name) (axis_no e j) (get_or N j no_name) (axis_no f j)

  -- it, and those after it
  axis-first : j < r → onward j ≡ (if eqb here 0 then onward (j + 1) else 10 * index_in c j + here)
  unfolding in_step indices_in
  axis-first b =
      let p : length (axes_of e) - j ≡ suc (length (axes_of e) - (j + 1)) = omega (arith, k.number) in
      let q : length (axes_of e) ≡ r = sym k.number in
      let t : length (axes_of f) ≡ r = sym l.number ∙ same in
      rw (
        p,
        axes-up e r k j b,
        axes-up f s l j (omega (arith, same)),
        q,
        t,
        drop-first-cons M r m j no_name b,
        drop-first-cons N r n j no_name b,
        add-one j,
      )

  -- it differs, or it doesn't
  pub axis-found : j < r → (d : ℕ) → d ≡ here → (d ≡ 0 → ⊥) → 10 * index_in c j + d ≡ onward j
  axis-found b d q h =
      ap (λ (n : ℕ). 10 * index_in c j + n) q
      ∙ sym (axis-first b ∙ ap (λ (t : Bool). if t then onward (j + 1) else 10 * index_in c j + here) (ne_eqb here 0 (λ z. h (q ∙ z))))

  pub axis-passed : j < r → (d : ℕ) → d ≡ here → d ≡ 0 → onward (j + 1) ≡ onward j
  axis-passed b d q h =
      sym (axis-first b ∙ ap (λ (t : Bool). if t then onward (j + 1) else 10 * index_in c j + here) (eq-eqb here 0 (sym q ∙ h)))

  -- none left
  pub none-differs : r ≤ j → 0 ≡ onward j
  unfolding in_step indices_in
  none-differs b = let p : length (axes_of e) - j ≡ 0 = omega (arith, k.number) in rw p

-- ---- the indices

all-indices : (c : Compared) → ((j : ℕ) → index_in c j ≡ j + 1) → (j n : ℕ) → indices_in c j n ≡ from (suc j) n
unfolding indices_in from
all-indices c h j zero = refl
all-indices c h j (suc n) = ap₂ (λ (x : ℕ) (l : List ℕ). x ∷ l) (h j ∙ add-one j) (all-indices c h (suc j) n)

-- where none is left out, they are those of A
pub by-all-indices : (c : Compared) → ((j : ℕ) → index_in c j ≡ j + 1) → (M : List Name) (e : Extent) (N : List Name) (f : Extent)
    → differing c M e N f
    ≡ first_difference (limits_in c) (indices (axes_of e)) (names_for (axes_of e) M) (axes_of e) (names_for (axes_of f) N) (axes_of f)
by-all-indices c h M e N f =
    let E = axes_of e in
    let F = axes_of f in
    ap (λ (I : List ℕ). first_difference (limits_in c) I (names_for E M) E (names_for F N) F) (all-indices c h 0 (length E))

-- behind the axis that was left out
past-indices : (k : AxisIndex) (j n : ℕ) → k.0 ≤ suc j → indices_in (OtherNames k) j n ≡ from (suc (suc j)) n
unfolding indices_in from
past-indices k j zero h = refl
past-indices k j (suc n) h =
    let b : ltb (j + 1) k.0 ≡ false = le-ltb (j + 1) k.0 (omega (arith, h)) in
    let e : j + 2 ≡ suc (suc j) = omega arith in
    ap₂ (λ (x : ℕ) (l : List ℕ). x ∷ l) (rw b e) (past-indices k (suc j) n (omega (arith, h)))

-- numbers without the one that stands after p
abbrev omit : ℕ → List ℕ → List ℕ
omit p l = take p l ++ drop (suc p) l

omitted-indices : (k : AxisIndex) (p n j : ℕ) → suc j + p ≡ k.0
    → indices_in (OtherNames k) j (length (omit p (from (suc j) n))) ≡ omit p (from (suc j) n)
unfolding indices_in from
omitted-indices k zero zero j h = refl
omitted-indices k (suc p) zero j h = refl
omitted-indices k zero (suc n) j h =
    ap (indices_in (OtherNames k) j) (length_from (suc (suc j)) n) ∙ past-indices k j n (omega (arith, h))
omitted-indices k (suc p) (suc n) j h =
    let b : ltb (j + 1) k.0 ≡ true = lt-ltb (j + 1) k.0 (omega (arith, h)) in
    ap₂ (λ (x : ℕ) (l : List ℕ). x ∷ l) (rw b (add-one j)) (omitted-indices k p n (suc j) (omega (arith, h)))

-- ---- one left out

pub other-indices : (k : AxisIndex) (E : List Axis) → 1 ≤ k.0
    → indices_in (OtherNames k) 0 (length (without k.0 E)) ≡ without k.0 (indices E)
other-indices k E one =
    let p : suc (k.0 - 1) ≡ k.0 = omega (arith, one) in
    let n : length (without k.0 E) ≡ length (without k.0 (indices E)) =
    without-many k.0 E (indices E) (sym (length_from 1 (length E))) in
    ap (indices_in (OtherNames k) 0) n
    ∙ (rw p at (omitted-indices k (k.0 - 1) (length E) 0 (omega (arith, one))))

pub others-told : (k : ℕ) (M new : List Name) (E : List Axis) (r : ℕ) → r ≡ length E → r ≤ length M
    → take (length (without k (take r M))) new ≡ without k (take r M) → names_for (without k E) new ≡ without k (names_for E M)
others-told k M new E r e l h =
    let n : length (without k E) ≡ length (without k (take r M)) = without-many k E (take r M) (sym e ∙ sym (length-take-le r M l)) in
    ap (λ (m : ℕ). take m new) n ∙ h ∙ ap (λ (m : ℕ). without k (take m M)) e
