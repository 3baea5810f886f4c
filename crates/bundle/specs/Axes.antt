-- Axes read from their bytes: the mark, an axis and its name by their numbers at an offset, and a loop that puts one axis after the
-- other into an extent and one name after the other beside it, with nothing past the last.
use Prim.Native.Nat.{ℕ, zero, suc, ◌+◌, ◌-◌, ◌*◌, ◌≤◌, ◌<◌}
use Rattle.std.specs.Prelude.{◌≡◌, refl, Bool, true, ◌&&◌, eqb, get_or, set}
use Rattle.std.proofs.Math.Path.{sym, ap, ap₂}
use Rattle.std.proofs.Common.{◌∙◌, mul-le-mul_right, take-append-drop, take-take, to_z}
use mathlib.Core.List.{List, [], ◌∷◌, ◌++◌, append_assoc, append-nil}
use native.Mathlib.Omega.{arith}
use borrow.Author.Tests.{eq-eqb, ne_eqb}
use Rattle.std.proofs.Math.ListN.{length, take, drop, replicate, length-set}
use Rattle.std.proofs.Math.Seq.{drop-drop}
use Rattle.std.specs.Int.{w32}
use Rattle.paper.specs.declared.Version.{Version}
use Rattle.paper.specs.declared.Version.TheVariants.{One, Two}
use Rattle.paper.specs.declared.Sizes.{Sizes}
use Rattle.paper.specs.declared.Name.{Name}
use Rattle.paper.specs.declared.Axis.{Axis}
use Rattle.paper.specs.declared.Extent.{Extent}
use Rattle.paper.specs.Limits.{most_axes, limit_bytes, pair_bytes, sizes_of}
use Rattle.paper.specs.Numbers.{le_of, le_bytes, part, distance, position_at, alike, same}
use Rattle.paper.specs.Axes.{no_name, no_axis, limited}
use Rattle.paper.specs.Bundle.{mark, mark_bytes, version_in, name_from, name_of, axis_of, maximum_of, each_axis}
use Rattle.paper.specs.Answers.{extent_of, names_of}
use Rattle.laws.specs.Sizes.{Fits}
use Rattle.positions.specs.Runs.{part-part}
use Rattle.cell.proofs.Runs.{bytes-at}
use Rattle.bundle.specs.Front.{front-more, blank-more}

-- ---- the mark

-- the first five bytes, one by one; x is the version's number
abbrev pub five_bytes : List ℕ → ℕ → Bool
five_bytes s x = eqb (get_or s 0 0) 82
    && (eqb (get_or s 1 0) 77 && (eqb (get_or s 2 0) 65 && (eqb (get_or s 3 0) x && (eqb (get_or s 4 0) 0 && true))))

marked_by : (v : Version) (s : List ℕ) → mark_bytes ≤ length s
    → same (take mark_bytes s) (mark (sizes_of v)) ≡ five_bytes s (sizes_of v).version
unfolding alike le_bytes sizes_of
marked_by One s h = ap (λ (l : List ℕ). same l (mark (sizes_of One))) (bytes-at s 0 mark_bytes h)
marked_by Two s h = ap (λ (l : List ℕ). same l (mark (sizes_of Two))) (bytes-at s 0 mark_bytes h)

pub marked : (v : Version) (s : List ℕ) → mark_bytes ≤ length s → (z : Sizes) → z ≡ sizes_of v
    → same (take mark_bytes s) (mark (sizes_of v)) ≡ five_bytes s z.version
marked v s h z e = marked_by v s h ∙ ap (λ (x : Sizes). five_bytes s x.version) (sym e)

-- the version that they name
module _ (s : List ℕ) (low high : ℕ) (p : low ≡ get_or s 3 0) (q : high ≡ get_or s 4 0) where
  pub names-other : (low ≡ 2 → ⊥) → One ≡ version_in s
  unfolding version_in
  names-other h = rw (← p, ne_eqb low 2 h)

  pub names-larger : low ≡ 2 → (high ≡ 0 → ⊥) → One ≡ version_in s
  unfolding version_in
  names-larger e h = rw (← p, ← q, eq-eqb low 2 e, ne_eqb high 0 h)

  pub names-two : low ≡ 2 → high ≡ 0 → Two ≡ version_in s
  unfolding version_in
  names-two e f = rw (← p, ← q, eq-eqb low 2 e, eq-eqb high 0 f)

-- ---- an axis and its name, by their numbers at an offset

module _ (z : Sizes) (v : Fits z) (s : List ℕ) (at : ℕ) where
  limit-part : (i : ℕ) → i + limit_bytes ≤ z.axis → position_at (at + i) s ≡ position_at i (part at z.axis s)
  limit-part i h = ap (λ (l : List ℕ). distance (to_z w32 (le_of l))) (sym (part-part s at z.axis i limit_bytes h))

  -- an axis's name is the first of its bytes
  pub name-told : (n : Name) → n ≡ name_from (part at z.name s) → n ≡ name_of z (part at z.axis s)
  name-told n e = e ∙ ap name_from (sym (take-take z.name z.axis (drop at s) (omega (arith, v.axis))))

  -- its limits, and its maximum's, come after it
  pub axis-told : (a : Axis) → a ≡ limited (position_at (at + z.name) s) (position_at (at + z.name + limit_bytes) s)
      → a ≡ axis_of z (part at z.axis s)
  axis-told a e =
      let f : at + z.name + limit_bytes ≡ at + (z.name + limit_bytes) = omega arith in
      let p = limit-part z.name (omega (arith, v.axis)) in
      let q = ap (λ (j : ℕ). position_at j s) f ∙ limit-part (z.name + limit_bytes) (omega (arith, v.axis)) in
      e ∙ (λ j. record { lo = p j; hi = q j })

  pub maximum-told : (a : Axis) → a ≡ limited (position_at (at + z.name + pair_bytes) s)
      (position_at (at + z.name + pair_bytes + limit_bytes) s)
      → a ≡ maximum_of z (part at z.axis s)
  maximum-told a e =
      let f : at + z.name + pair_bytes ≡ at + (z.name + pair_bytes) = omega arith in
      let g : at + z.name + pair_bytes + limit_bytes ≡ at + (z.name + pair_bytes + limit_bytes) = omega arith in
      let p = ap (λ (j : ℕ). position_at j s) f ∙ limit-part (z.name + pair_bytes) (omega (arith, v.axis)) in
      let q = ap (λ (j : ℕ). position_at j s) g ∙ limit-part (z.name + pair_bytes + limit_bytes) (omega (arith, v.axis)) in
      e ∙ (λ j. record { lo = p j; hi = q j })

-- ---- one axis after the other

-- of each axis what f reads of it: those done and those to come are all; past those done there is nothing
pub record Filled {C : Type 0} (z : Sizes) (none : C) (f : List ℕ → C) (s : List ℕ) (at n i : ℕ) (l : List C) : Type 0 where
  pub long : length l ≡ most_axes
  pub whole : take i l ++ each_axis z f (n - i) (drop (at + i * z.axis) s) ≡ each_axis z f n (drop at s)
  pub blank : drop i l ≡ replicate (most_axes - i) none

-- as many axes as are read
pub length-each : {C : Type 0} (z : Sizes) (f : List ℕ → C) (n : ℕ) (bs : List ℕ) → length (each_axis z f n bs) ≡ n
unfolding each_axis
length-each z f zero bs = refl
length-each z f (suc n) bs = ap suc (length-each z f n (drop z.axis bs))

module _ {C : Type 0} (z : Sizes) (none : C) (f : List ℕ → C) (s : List ℕ) (at n : ℕ) where
  pub filled-start : Filled z none f s at n 0 (replicate most_axes none)
  filled-start =
      let e : n - 0 ≡ n = omega arith in
      let g : at + 0 * z.axis ≡ at = omega arith in
      record { long = refl; whole = rw (e, g); blank = refl }

  pub filled_more : (i : ℕ) (l : List C) (a : C) → i < n → i < most_axes → a ≡ f (part (at + i * z.axis) z.axis s)
      → Filled z none f s at n i l → Filled z none f s at n (i + 1) (set l i a)
  unfolding each_axis
  filled_more i l a h k e v =
      let p : n - i ≡ suc (n - (i + 1)) = omega arith in
      let q : at + (i + 1) * z.axis ≡ at + i * z.axis + z.axis = omega arith in
      let w : i < length l = omega (arith, v.long) in
      record {
        long = length-set l i a ∙ v.long;
        whole =
            rw (q, ← drop-drop z.axis (at + i * z.axis) s)
            (ap (λ (m : List C). m ++ each_axis z f (n - (i + 1)) (drop z.axis (drop (at + i * z.axis) s))) (front-more l i a w)
            ∙ append_assoc (take i l) (a ∷ []) _
            ∙ ap (λ (x : C). take i l ++ (x ∷ each_axis z f (n - (i + 1)) (drop z.axis (drop (at + i * z.axis) s)))) e
            ∙ ap (λ (j : ℕ). take i l ++ each_axis z f j (drop (at + i * z.axis) s)) (sym p) ∙ v.whole);
        blank = blank-more l i a most_axes none k v.blank;
      }

  -- all done
  filled-all : (i : ℕ) (l : List C) → i ≤ n → n ≤ i → Filled z none f s at n i l
      → l ≡ each_axis z f n (drop at s) ++ replicate (most_axes - length (each_axis z f n (drop at s))) none
  unfolding each_axis
  filled-all i l h k v =
      let p : i ≡ n = omega arith in
      let q : n - n ≡ 0 = omega arith in
      let t : take n l ≡ each_axis z f n (drop at s) = sym (append-nil (take n l))
      ∙ ap (λ (j : ℕ). take n l ++ each_axis z f j (drop (at + n * z.axis) s)) (sym q)
      ∙ ap (λ (j : ℕ). take j l ++ each_axis z f (n - j) (drop (at + j * z.axis) s)) (sym p) ∙ v.whole in
      let b : drop n l ≡ replicate (most_axes - n) none =
      ap (λ (j : ℕ). drop j l) (sym p) ∙ v.blank ∙ ap (λ (j : ℕ). replicate (most_axes - j) none) p in
      let r : n ≡ length (each_axis z f n (drop at s)) = sym (length-each z f n (drop at s)) in
      sym (take-append-drop n l) ∙ ap₂ (λ (x y : List C). x ++ y) t b
      ∙ ap (λ (j : ℕ). each_axis z f n (drop at s) ++ replicate (most_axes - j) none) r

-- all done: the extent of the axes, and their names
module _ (z : Sizes) (s : List ℕ) (at n i : ℕ) (h : i ≤ n) (k : n ≤ i) where
  pub filled-extent : (f : List ℕ → Axis) (l : List Axis) → Filled z no_axis f s at n i l
      → ◌≡◌ {A = Extent} (record { rank = n; axes = l }) (extent_of (each_axis z f n (drop at s)))
  filled-extent f l v =
      let r : n ≡ length (each_axis z f n (drop at s)) = sym (length-each z f n (drop at s)) in
      let x = filled-all z no_axis f s at n i l h k v in
      λ j. record { rank = r j; axes = x j }

  pub filled-names : (f : List ℕ → Name) (l : List Name) → Filled z no_name f s at n i l → l ≡ names_of (each_axis z f n (drop at s))
  filled-names f l v = filled-all z no_name f s at n i l h k v

-- so few axes have few bytes
pub axes-small : (z : Sizes) → Fits z → (n : ℕ) → n ≤ z.axes → n * z.axis ≤ 192
axes-small z v n h = omega (arith, mul-le-mul_right {m = n} {n = most_axes} z.axis (omega (arith, v.axes)), v.axis, v.name)

-- the bytes of an axis lie where those of all lie
pub axis-room : (i n w at l : ℕ) → i < n → at + n * w ≤ l → at + i * w + w ≤ l
axis-room i n w at l h r =
    let e : i * w + w ≡ (i + 1) * w = omega arith in
    omega (arith, e, mul-le-mul_right {m = i + 1} {n = n} w (omega arith))
