-- What loops over the axes cite: the definitions at `drop i E`, one axis more. A loop that goes down from the last axis has the
-- definition at the axes done, a loop that goes up has it at the axes left; l and r are a struct's list and its number of axes.
use Rattle.std.specs.Prelude.{ℕ, zero, suc, ◌+◌, ◌-◌, ◌*◌, ◌/◌, ◌%◌, ◌≤◌, ◌<◌, ◌≡◌, refl, true, ◌&&◌, List, [], ◌∷◌, map, length, get_or, take, drop, set}
use Rattle.std.proofs.Math.Path.{sym, ap}
use Rattle.std.proofs.Common.{ap₂, ◌∙◌, mul-le-mul, mul_comm, mod-eq_of_lt, div-one, add-one, length-set, length-take, drop-cons, get_or-take, drop-set-lt, get_or-set_same}
use Rattle.std.proofs.Math.Nat.{mod-lt, div-div-eq-div-mul}
use native.Mathlib.Omega.{arith}
use Rattle.std.proofs.Math.Arith.{mod-mul, digits_div, digits_mod}
use Rattle.std.proofs.lemmas.List.{length-map}
use Rattle.std.proofs.Math.Seq.{drop-length, take-set-lt}
use Rattle.paper.specs.Numbers.{alike}
use Rattle.paper.specs.declared.Axis.{Axis}
use Rattle.paper.specs.Limits.{reach, most_cells}
use Rattle.paper.specs.Axes.{width, cells, on_axis, inside, offset, at_offset}
use Rattle.laws.specs.Places.{Inside, offset-lt}
use Rattle.laws.specs.Limits.{Sound, sound-drop, sound-at, cells-pos, cells-drop}

-- ---- the axes of a struct: the first r of a list that is at least so long

module _ {X : Type 0} (l : List X) (r : ℕ) (h : r ≤ length l) where
  pub length-first : length (take r l) ≡ r
  length-first = simp length-take (omega arith)

  pub drop-first : drop r (take r l) ≡ []
  drop-first = ap (λ (n : ℕ). drop n (take r l)) (sym length-first) ∙ drop-length (take r l)

  pub drop-first-cons : (i : ℕ) (d : X) → i < r → drop i (take r l) ≡ get_or l i d ∷ drop (suc i) (take r l)
  drop-first-cons i d k = drop-cons (take r l) i d (rw length-first k) ∙ ap (λ (x : X). x ∷ drop (suc i) (take r l)) (get_or-take r l i d k)

  -- for a loop that goes down, whose i has just been made one less
  pub drop-down : (i : ℕ) (d : X) → 0 < i → i ≤ r → drop (i - 1) (take r l) ≡ get_or l (i - 1) d ∷ drop i (take r l)
  drop-down i d p k = let e : suc (i - 1) ≡ i = omega arith in drop-first-cons (i - 1) d (omega arith) ∙ ap (λ (n : ℕ). get_or l (i - 1) d ∷ drop n (take r l)) e

  -- the same after a store at the place that it is at now
  pub set-down : (i : ℕ) (v : X) → 0 < i → i ≤ r → drop (i - 1) (take r (set l (i - 1) v)) ≡ v ∷ drop i (take r l)
  set-down i v p k =
      let e : suc (i - 1) ≡ i = omega arith in
      ap (drop (i - 1)) (take-set-lt r l (i - 1) v (omega arith))
      ∙ drop-cons (set (take r l) (i - 1) v) (i - 1) v (simp (length-set, length-first) (omega arith))
      ∙ ap₂ (λ (x : X) (m : List X). x ∷ m) (get_or-set_same (take r l) (i - 1) v v (simp length-first (omega arith))) (drop-set-lt (suc (i - 1)) (take r l) (i - 1) v (omega arith) ∙ ap (λ (n : ℕ). drop n (take r l)) e)

-- a loop that goes down ends at 0, where nothing is dropped
pub drop-none : {X : Type 0} (l : List X) (i : ℕ) → i ≤ 0 → drop i l ≡ l
drop-none l zero h = refl
drop-none l (suc i) h = absurd (omega arith)

-- ---- the number of cells, on the way down

module _ (l : List Axis) (r : ℕ) (h : r ≤ length l) where
  pub cells-none : 1 ≡ cells (drop r (take r l))
  unfolding cells
  cells-none = sym (ap cells (drop-first l r h))

  pub cells-down : (i : ℕ) (d : Axis) → 0 < i → i ≤ r
      → cells (drop (i - 1) (take r l)) ≡ width (get_or l (i - 1) d) * cells (drop i (take r l))
  unfolding cells
  cells-down i d p k = ap cells (drop-down l r h i d p k)

  -- the limits of the axis that a loop is at
  pub sound-first : (i : ℕ) (d : Axis) → Sound (take r l) → i < r → ((get_or l i d).lo ≤ (get_or l i d).hi) × ((get_or l i d).hi ≤ 2 * reach)
  sound-first i d s k = rw (← get_or-take r l i d k) (sound-at (take r l) i d s (rw (length-first l r h) k))

-- a field that is an array of structs is owned as the list of the structs' own values: `search (needs, length-mapped)` finds its length
pub length-mapped : (X Y : Type 0) (f : X → Y) (l : List X) (n : ℕ) → length (map f l) ≡ n → length l ≡ n
length-mapped X Y f l n e = sym (length-map l f) ∙ e

-- a count of cells times a width, before the count is tested
pub product_le : {n w : ℕ} → n ≤ most_cells → w ≤ 2 * reach + 1 → n * w ≤ most_cells * (2 * reach + 1)
product_le h k = mul-le-mul h k

-- ---- a coordinate beside the axes

pub inside-drop : (E : List Axis) (p : List ℕ) (i : ℕ) → Inside E p → Inside (drop i E) (drop i p)
inside-drop E p zero h = h
inside-drop [] [] (suc i) h = tt
inside-drop [] (x ∷ p) (suc i) h = absurd h
inside-drop (a ∷ E) [] (suc i) h = absurd h
inside-drop (a ∷ E) (x ∷ p) (suc i) h = inside-drop E p i h.2

module _ (l : List Axis) (p : List ℕ) (r : ℕ) (h : r ≤ length l) (k : r ≤ length p) where
  -- `inside`, on the way up: the axes left
  pub inside-up : (i : ℕ) (d : Axis) (z : ℕ) → i < r
      → inside (drop i (take r l)) (drop i (take r p)) ≡ (on_axis (get_or l i d) (get_or p i z) && inside (drop (i + 1) (take r l)) (drop (i + 1) (take r p)))
  unfolding alike
  inside-up i d z b = rw (drop-first-cons l r h i d b, drop-first-cons p r k i z b, add-one)

  pub inside-end : (i : ℕ) → i ≤ r → r ≤ i → inside (drop i (take r l)) (drop i (take r p)) ≡ true
  unfolding alike
  inside-end i b c = let e : i ≡ r = omega arith in rw (e, drop-first l r h, drop-first p r k)

  -- the limits hold at the axis that a loop is at
  pub inside-first : (i : ℕ) (d : Axis) (z : ℕ) → Inside (take r l) (take r p) → i < r
      → ((get_or l i d).lo ≤ get_or p i z) × (get_or p i z ≤ (get_or l i d).hi)
  inside-first i d z s b =
      let t = rw (drop-first-cons l r h i d b, drop-first-cons p r k i z b) at (inside-drop (take r l) (take r p) i s) in
      (t.0, t.1)

  -- the sum, on the way down: the axes done
  pub offset-none : 0 ≡ offset (drop r (take r l)) (drop r (take r p))
  unfolding offset
  offset-none = rw (drop-first l r h)

  pub offset-down : (i : ℕ) (d : Axis) (z : ℕ) → 0 < i → i ≤ r
      → offset (drop (i - 1) (take r l)) (drop (i - 1) (take r p)) ≡ (get_or p (i - 1) z - (get_or l (i - 1) d).lo) * cells (drop i (take r l)) + offset (drop i (take r l)) (drop i (take r p))
  unfolding offset
  offset-down i d z b c = rw (drop-down l r h i d b c, drop-down p r k i z b c)

  -- what is summed so far is an offset into the axes done
  pub offset-few : (i : ℕ) → Sound (take r l) → Inside (take r l) (take r p)
      → offset (drop i (take r l)) (drop i (take r p)) < cells (take r l)
  offset-few i s t = omega (arith, offset-lt (drop i (take r l)) (drop i (take r p)) (inside-drop (take r l) (take r p) i t), cells-drop (take r l) i s)

-- ---- the coordinate of an offset, on the way down

module _ (l : List Axis) (r : ℕ) (h : r ≤ length l) (s : Sound (take r l)) where
  pub at_offset-none : (k : ℕ) → at_offset (drop r (take r l)) (k % cells (drop r (take r l))) ≡ []
  unfolding at_offset
  at_offset-none k = rw (drop-first l r h)

  pub left-none : (k : ℕ) → k ≡ k / cells (drop r (take r l))
  unfolding cells
  left-none k = rw (drop-first l r h) (sym (div-one k))

  pub left_down : (k i : ℕ) (d : Axis) → 0 < i → i ≤ r
      → k / cells (drop i (take r l)) / width (get_or l (i - 1) d) ≡ k / cells (drop (i - 1) (take r l))
  left_down k i d b c = rw (cells-down l r h i d b c, mul_comm (width (get_or l (i - 1) d)) (cells (drop i (take r l)))) (div-div-eq-div-mul k (cells (drop i (take r l))) (width (get_or l (i - 1) d)))

  pub at_offset-down : (k i : ℕ) (d : Axis) → 0 < i → i ≤ r
      → at_offset (drop (i - 1) (take r l)) (k % cells (drop (i - 1) (take r l)))
      ≡ ((get_or l (i - 1) d).lo + k / cells (drop i (take r l)) % width (get_or l (i - 1) d)) ∷ at_offset (drop i (take r l)) (k % cells (drop i (take r l)))
  unfolding at_offset
  at_offset-down k i d b c =
      let lim = sound-first l r h (i - 1) d s (omega arith) in
      let w : 0 < width (get_or l (i - 1) d) = omega arith in
      let n = cells-pos (drop i (take r l)) (sound-drop (take r l) i s) in
      let m = mod-lt k n in
      rw (cells-down l r h i d b c, drop-down l r h i d b c, mod-mul k w n)
      (simp (digits_div (k / cells (drop i (take r l)) % width (get_or l (i - 1) d)) m, digits_mod (k / cells (drop i (take r l)) % width (get_or l (i - 1) d)) m))

  -- at the end of the way
  pub at_offset-whole : (k i : ℕ) → i ≤ 0 → k < cells (take r l)
      → at_offset (drop i (take r l)) (k % cells (drop i (take r l))) ≡ at_offset (take r l) k
  at_offset-whole k i b c = rw (drop-none (take r l) i b, mod-eq_of_lt c)
