-- What the bundle's writers cite: the mark, names, positions and axes. A loop that writes keeps it true that
-- what is left, put where it now stands, gives what the whole gave at the start.
use Rattle.std.specs.Prelude.{ℕ, ◌+◌, ◌*◌, ◌/◌, ◌%◌, ◌^◌, ◌≤◌, ◌<◌, ◌≡◌, List, [], ◌∷◌, ◌++◌, get_or, take, drop}
use Rattle.std.proofs.Math.Path.{refl, sym, ap}
use Rattle.std.proofs.Common.{subst, ◌∙◌, append_assoc, zero-mul, suc-mul, add-one, arith, length-append, drop_of_length-le, length-take-le, of_z}
use Rattle.std.proofs.Math.ListN.{length, length-take}
use Rattle.paper.specs.declared.Version.{Version}
use Rattle.paper.specs.declared.Version.TheVariants.{One, Two}
use Rattle.paper.specs.declared.Sizes.{Sizes}
use Rattle.paper.specs.declared.Name.{Name}
use Rattle.paper.specs.declared.Axis.{Axis}
use Rattle.paper.specs.declared.Extent.{Extent}
use Rattle.paper.specs.declared.Form.{Form}
use Rattle.std.specs.Int.{w32}
use Rattle.paper.specs.Limits.{most_axes, limit_bytes, pair_bytes, limits_bytes, half_name, sizes_of}
use Rattle.paper.specs.Numbers.{le_bytes, position, position_bytes}
use Rattle.paper.specs.Axes.{letters_of, no_name}
use Rattle.paper.specs.Bundle.{mark, axes_bytes}
use Rattle.paper.specs.Answers.{axes_of, names_for, shape_of}
use Rattle.laws.specs.Sizes.{Fits}
use Rattle.laws.specs.Put.{put, put-none, length-put, after}
use Rattle.laws.specs.Answers.{count-few, axes-few}
use Rattle.laws.specs.Loops.{drop-first-cons}
use Rattle.bundle.specs.Axes.{axis-room}
use Rattle.extent.specs.Rank.{Rank, rank-told, axis_no, axes-up}

-- ---- the mark

mark-by : (v : Version) (n : ℕ) → 82 ∷ 77 ∷ 65 ∷ (sizes_of v).version ∷ 0 ∷ n ∷ [] ≡ mark (sizes_of v) ++ (n ∷ [])
unfolding sizes_of le_bytes
mark-by One n = refl
mark-by Two n = refl

-- with the count after it, byte by byte
pub mark-bytes : (v : Version) (z : Sizes) → z ≡ sizes_of v → (n : ℕ) → 82 ∷ 77 ∷ 65 ∷ z.version ∷ 0 ∷ n ∷ [] ≡ mark (sizes_of v) ++ (n ∷ [])
mark-bytes v z e n = ap (λ (x : Sizes). 82 ∷ 77 ∷ 65 ∷ x.version ∷ 0 ∷ n ∷ []) e ∙ mark-by v n

-- ---- numbers and axes

-- the two halves of eight bytes
eight-bytes : (n : ℕ) → le_bytes limit_bytes (n % 256 ^ limit_bytes) ++ le_bytes limit_bytes (n / 256 ^ limit_bytes) ≡ le_bytes half_name n
unfolding le_bytes
eight-bytes n =
    let b : (n % 256 ^ limit_bytes % 256 ≡ n % 256) × (n % 256 ^ limit_bytes / 256 % 256 ≡ n / 256 % 256)
    × (n % 256 ^ limit_bytes / 256 / 256 % 256 ≡ n / 256 / 256 % 256)
    × (n % 256 ^ limit_bytes / 256 / 256 / 256 % 256 ≡ n / 256 / 256 / 256 % 256)
    × (n / 256 ^ limit_bytes ≡ n / 256 / 256 / 256 / 256) = omega arith in
    rw (b.0, b.1, b.2, b.3, b.4)

-- what a call that puts four bytes says
abbrev pub FourPut : List ℕ → ℕ → ℕ → List ℕ → Type 0
FourPut d at n y = y ≡ take at d ++ le_bytes limit_bytes n ++ drop (at + limit_bytes) d

pub half-put : (d y z : List ℕ) (at w : ℕ) → at + half_name ≤ length d → FourPut d at (w % 256 ^ limit_bytes) y
    → FourPut y (at + limit_bytes) (w / 256 ^ limit_bytes) z → z ≡ put d at (le_bytes half_name w)
unfolding le_bytes
half-put d y z at w h p q =
    after d at (le_bytes limit_bytes (w % 256 ^ limit_bytes)) (le_bytes limit_bytes (w / 256 ^ limit_bytes)) y z (at + limit_bytes)
    (omega arith) refl p q ∙ ap (put d at) (eight-bytes w)

-- a name of one half, and one of both
pub short-put : (d y : List ℕ) (at : ℕ) (n : Name) → y ≡ put d at (le_bytes half_name n.first) → y ≡ put d at (take half_name (letters_of n))
unfolding le_bytes
short-put d y at n p = p

pub long-put : (d x y : List ℕ) (at : ℕ) (n : Name) → at + 2 * half_name ≤ length d → x ≡ put d at (le_bytes half_name n.first)
    → y ≡ put x (at + half_name) (le_bytes half_name n.last) → y ≡ put d at (take (2 * half_name) (letters_of n))
unfolding le_bytes
long-put d x y at n h p q = after d at (le_bytes half_name n.first) (le_bytes half_name n.last) x y (at + half_name) (omega arith) refl p q

-- and of a position's
abbrev pub PositionPut : List ℕ → ℕ → ℕ → List ℕ → Type 0
PositionPut d at p y = FourPut d at (of_z w32 (position p)) y

-- an axis's limits and its maximum's
abbrev pub limits_part : Axis → Axis → List ℕ
limits_part a m = position_bytes a.lo ++ (position_bytes a.hi ++ (position_bytes m.lo ++ position_bytes m.hi))

-- an axis with its name and its maximum
abbrev pub axis_part : Sizes → Name → Axis → Axis → List ℕ
axis_part z n a m = take z.name (letters_of n) ++ limits_part a m

limits-length : (a m : Axis) → length (limits_part a m) ≡ limits_bytes
unfolding le_bytes
limits-length a m = refl

module _ (z : Sizes) (v : Fits z) where
  name-length : (n : Name) → length (take z.name (letters_of n)) ≡ z.name
  unfolding le_bytes
  name-length n = omega (arith, length-take z.name (letters_of n), v.name)

  part_length : (n : Name) (a m : Axis) → length (axis_part z n a m) ≡ z.axis
  part_length n a m =
      omega (arith, length-append (take z.name (letters_of n)) (limits_part a m), name-length n, limits-length a m, v.axis)

  -- four limits, one after the other
  limits-put : (d d₁ d₂ d₃ d₄ : List ℕ) (at : ℕ) (a m : Axis) → at + limits_bytes ≤ length d
      → PositionPut d at a.lo d₁ → PositionPut d₁ (at + limit_bytes) a.hi d₂
      → PositionPut d₂ (at + pair_bytes) m.lo d₃ → PositionPut d₃ (at + pair_bytes + limit_bytes) m.hi d₄
      → d₄ ≡ put d at (limits_part a m)
  unfolding le_bytes
  limits-put d d₁ d₂ d₃ d₄ at a m h o p q r =
      let x = position_bytes a.lo ++ position_bytes a.hi in
      let b = after d at (position_bytes a.lo) (position_bytes a.hi) d₁ d₂ (at + limit_bytes) (omega arith) refl o p in
      let c = after d at x (position_bytes m.lo) d₂ d₃ (at + pair_bytes) (omega arith) refl b q in
      after d at (x ++ position_bytes m.lo) (position_bytes m.hi) d₃ d₄ (at + pair_bytes + limit_bytes) (omega arith) (omega arith) c r

  -- the name, and then these
  pub axis-put : (d d₁ d₂ d₃ d₄ d₅ : List ℕ) (at : ℕ) (n : Name) (a m : Axis) → at + z.axis ≤ length d
      → d₁ ≡ put d at (take z.name (letters_of n))
      → PositionPut d₁ (at + z.name) a.lo d₂ → PositionPut d₂ (at + z.name + limit_bytes) a.hi d₃
      → PositionPut d₃ (at + z.name + pair_bytes) m.lo d₄ → PositionPut d₄ (at + z.name + pair_bytes + limit_bytes) m.hi d₅
      → d₅ ≡ put d at (axis_part z n a m)
  axis-put d d₁ d₂ d₃ d₄ d₅ at n a m h o p q r s =
      let T = take z.name (letters_of n) in
      let l : length d₁ ≡ length d = ap length o ∙ length-put d at T (omega (arith, name-length n, v.axis)) in
      after d at T (limits_part a m) d₁ d₅ (at + z.name) (omega (arith, name-length n, v.axis)) (omega (arith, name-length n)) o
      (limits-put d₁ d₂ d₃ d₄ d₅ (at + z.name) a m (omega (arith, l, v.axis)) p q r s)

-- the number of an extent's axes, however it was had
pub ranked : (e : Extent) (r : ℕ) → length e.axes ≡ most_axes → r ≡ length (axes_of e) → Rank e r
ranked e r l n = let k = rank-told e _ l refl (count-few e.rank) in subst (Rank e) (k.number ∙ sym n) k

-- a form with room for the most names has one for each axis
pub names-full : (f : Form) → length f.names ≡ most_axes → length (shape_of f).names ≡ length (shape_of f).axes
names-full f h = length-take-le _ f.names (omega (arith, h, axes-few f.extent))

-- as many axes and maxima, and room for them
pub record AxesRoom (z : Sizes) (e m : Extent) (at : ℕ) (d : List ℕ) : Type 0 where
  pub alike : length (axes_of m) ≡ length (axes_of e)
  pub room : at + length (axes_of e) * z.axis ≤ length d

-- i axes are written
pub record Writing (z : Sizes) (N : List Name) (e m : Extent) (d₀ : List ℕ) (at : ℕ) (d : List ℕ) (i : ℕ) : Type 0 where
  pub turns : i ≤ length (axes_of e)
  pub long : length d ≡ length d₀
  pub left : put d (at + i * z.axis) (axes_bytes z (drop i (names_for (axes_of e) N)) (drop i (axes_of e)) (drop i (axes_of m)))
      ≡ put d₀ at (axes_bytes z (names_for (axes_of e) N) (axes_of e) (axes_of m))

module _ {z : Sizes} (f : Fits z) {N : List Name} {e m : Extent} {d₀ : List ℕ} {at : ℕ} where
  pub axes-start : Writing z N e m d₀ at d₀ 0
  axes-start = let a : at + 0 * z.axis ≡ at = omega arith in record { turns = omega arith; long = refl; left = rw a }

  module _ {r : ℕ} (rn : length N ≡ most_axes) (re : Rank e r) (rm : Rank m r) (q : AxesRoom z e m at d₀) {d : List ℕ} {i : ℕ}
      (v : Writing z N e m d₀ at d i) where
    -- the names left: one more, and none at the end
    names-up : i < r → drop i (names_for (axes_of e) N) ≡ get_or N i no_name ∷ drop (i + 1) (names_for (axes_of e) N)
    names-up h = rw add-one (drop-first-cons N (length (axes_of e)) (omega (arith, rn, axes-few e)) i no_name (omega (arith, re.number)))

    names-end : r ≤ i → drop i (names_for (axes_of e) N) ≡ []
    names-end h =
        let l = length-take-le (length (axes_of e)) N (omega (arith, rn, axes-few e)) in
        drop_of_length-le (names_for (axes_of e) N) {i = i} (omega (arith, l, re.number))

    pub axes-more : i < r → (y : List ℕ) → y ≡ put d (at + i * z.axis) (axis_part z (get_or N i no_name) (axis_no e i) (axis_no m i))
        → Writing z N e m d₀ at y (i + 1)
    unfolding axes_bytes le_bytes
    axes-more h y w =
        let x = axis_part z (get_or N i no_name) (axis_no e i) (axis_no m i) in
        let l = part_length z f (get_or N i no_name) (axis_no e i) (axis_no m i) in
        let s = axis-room i (length (axes_of e)) z.axis at (length d₀) (omega (arith, re.number)) q.room in
        let b : at + i * z.axis + length (axis_part z (get_or N i no_name) (axis_no e i) (axis_no m i)) ≤ length d = omega
        (arith, v.long, s, l) in
        record {
          turns = omega (arith, re.number);
          long = ap length w ∙ length-put d (at + i * z.axis) x b ∙ v.long;
          left =
              after d _ x _ y _ (at + (i + 1) * z.axis) b (omega (arith, l)) w refl
              ∙ ap (put d (at + i * z.axis)) (append_assoc (take z.name (letters_of (get_or N i no_name)))
              (limits_part (axis_no e i) (axis_no m i)) _)
              ∙ (rw (names-up h, axes-up e r re i h, axes-up m r rm i h) at v.left);
        }

    pub axes-done : r ≤ i → d ≡ put d₀ at (axes_bytes z (names_for (axes_of e) N) (axes_of e) (axes_of m))
    unfolding axes_bytes
    axes-done h = sym (put-none d (at + i * z.axis)) ∙ (rw (names-end h) at v.left)

-- as many bytes as axes say
pub axes-length : (z : Sizes) → Fits z → (N : List Name) (E M : List Axis) → length N ≡ length E → length M ≡ length E
    → length (axes_bytes z N E M) ≡ length E * z.axis
unfolding axes_bytes le_bytes
axes-length z f [] [] M n h = sym (zero-mul z.axis)
axes-length z f [] (a ∷ E) M n h = absurd (omega arith)
axes-length z f (n ∷ N) [] M k h = absurd (omega arith)
axes-length z f (n ∷ N) (a ∷ E) [] k h = absurd (omega arith)
axes-length z f (n ∷ N) (a ∷ E) (m ∷ M) k h =
    let T = take z.name (letters_of n) in
    omega (
      arith,
      length-append T (limits_part a m ++ axes_bytes z N E M),
      name-length z f n,
      axes-length z f N E M (omega arith) (omega arith),
      f.axis,
      suc-mul (length E) z.axis,
    )
