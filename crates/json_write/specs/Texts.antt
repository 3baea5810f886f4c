-- The text of an array as its writer builds it: the axes that are left, from a cell on, as items with a comma after each but the last.
use Prim.Native.Nat.{ℕ, zero, suc, ◌+◌, ◌-◌, ◌*◌, ◌≤◌, ◌<◌}
use Rattle.std.specs.Prelude.{◌≡◌, take, drop, get_or}
use Rattle.std.proofs.Math.Path.{refl}
use Rattle.std.proofs.Common.{sym, ap, ◌∙◌, arith, mul-one, length-append, length-drop, drop_of_length-le, drop-cons, drop_at}
use mathlib.Core.List.{List, [], ◌∷◌, ◌++◌, map, append-nil, map-append}
use Rattle.std.proofs.Math.Nat.{suc-mul, sub_self}
use Rattle.std.proofs.Math.Numerals.{add-one}
use Rattle.std.proofs.Math.ListN.{length, length-map}
use Rattle.std.proofs.Math.Seq.{take_at}
use Rattle.paper.specs.declared.Axis.{Axis}
use Rattle.paper.specs.declared.Cell.{Cell}
use Rattle.paper.specs.Numbers.{from}
use Rattle.paper.specs.Axes.{width, cells, no_axis}
use Rattle.paper.specs.Json.{cell_text, commas, layers, brackets}
use Rattle.laws.specs.Lists.{from-split}
use Rattle.laws.specs.Places.{length_from}

-- ---- items

-- what follows an item with n more after it
unfoldable pub comma : ℕ → List ℕ
comma zero = []
comma (suc n) = 44 ∷ []

pub comma-some : (n : ℕ) → (n ≡ 0 → ⊥) → comma n ≡ 44 ∷ []
unfolding comma
comma-some n h = let e : n ≡ suc (n - 1) = omega arith in ap comma e

-- n items: the text F of the cell that each begins with, which for the first is cell i, and s cells later for the next
unfoldable pub items : ℕ → (ℕ → List ℕ) → ℕ → ℕ → List ℕ
items zero F s i = []
items (suc n) F s i = F i ++ (comma n ++ items n F s (i + s))

-- in brackets
abbrev pub row_of : ℕ → (ℕ → List ℕ) → ℕ → ℕ → List ℕ
row_of n F s i = 91 ∷ (items n F s i ++ (93 ∷ []))

pub row-length : (n : ℕ) (F : ℕ → List ℕ) (s i : ℕ) → length (row_of n F s i) ≡ length (items n F s i) + 2
row-length n F s i = omega (arith, length-append (items n F s i) (93 ∷ []))

-- ---- the paper's commas and layers are items

commas-on : (t : List ℕ) (ts : List (List ℕ)) (n : ℕ) {r : List ℕ} → length ts ≡ n → commas ts ≡ r → commas (t ∷ ts) ≡ t ++ (comma n ++ r)
unfolding commas comma
commas-on t [] n e q = rw (← e, ← q) (sym (append-nil t))
commas-on t (u ∷ ts) n e q = rw (← e, ← q)

length-layers : (n m : ℕ) (cs : List Cell) → length (layers n m cs) ≡ n
unfolding layers
length-layers zero m cs = refl
length-layers (suc n) m cs = ap suc (length-layers n m (drop m cs))

module _ (f : ℕ → Cell) where
  -- the text of one cell
  abbrev pub cell_on : ℕ → List ℕ
  cell_on i = cell_text (f i)

  cells-items : (n i : ℕ) → commas (map cell_text (map f (from i n))) ≡ items n cell_on 1 i
  unfolding from items commas
  cells-items zero i = refl
  cells-items (suc n) i =
      rw add-one (commas-on (cell_on i) (map cell_text (map f (from (suc i) n))) n (simp (length-map, length_from)) (cells-items n (suc i)))

  module _ (E : List Axis) where
    -- the text of these axes from a cell on
    abbrev pub axes_on : ℕ → List ℕ
    axes_on i = brackets E (map f (from i (cells E)))

    layers-items : (n i : ℕ) → commas (map (brackets E) (layers n (cells E) (map f (from i (n * cells E))))) ≡ items n axes_on (cells E) i
    unfolding items commas layers
    layers-items zero i = refl
    layers-items (suc n) i =
        let e : suc n * cells E ≡ cells E + n * cells E = suc-mul n (cells E) ∙ (omega arith) in
        let l : length (map f (from i (cells E))) ≡ cells E = length-map (from i (cells E)) f ∙ length_from i (cells E) in
        let p : List Cell = map f (from i (cells E)) in
        let q : List Cell = map f (from (i + cells E) (n * cells E)) in
        let both : map f (from i (suc n * cells E)) ≡ p ++ q =
        ap (λ (m : ℕ). map f (from i m)) e ∙ ap (map f) (from-split i (cells E) (n * cells E)) ∙ map-append f (from i (cells E)) (from (i + cells E) (n * cells E)) in
        ap (λ (cs : List Cell). commas (brackets E (take (cells E) cs) ∷ map (brackets E) (layers n (cells E) (drop (cells E) cs)))) both
        ∙ rw (take_at p q (cells E) l, drop_at p q (cells E) l)
        (commas-on (axes_on i) (map (brackets E) (layers n (cells E) q)) n (simp (length-map, length-layers)) (layers-items n (i + cells E)))

  -- one axis; and one with others after it
  pub brackets-one : (a : Axis) (i : ℕ) → axes_on (a ∷ []) i ≡ row_of (width a) cell_on 1 i
  unfolding brackets cells
  brackets-one a i = rw (mul-one, cells-items)

  pub brackets-more : (a : Axis) (E : List Axis) (i : ℕ) → 1 ≤ length E → axes_on (a ∷ E) i ≡ row_of (width a) (axes_on E) (cells E) i
  unfolding brackets cells
  brackets-more a [] i h = absurd (omega arith)
  brackets-more a (b ∷ E) i h = rw (layers-items (b ∷ E) (width a) i)

-- ---- the axes that are left

-- the last axes, as many as are left; how many cells they have; the first of them
abbrev pub axes_left : List Axis → ℕ → List Axis
axes_left E left = drop (length E - left) E

abbrev pub size_left : List Axis → ℕ → ℕ
size_left E left = cells (axes_left E left)

abbrev pub axis_left : List Axis → ℕ → Axis
axis_left E left = get_or E (length E - left) no_axis

-- their text from cell i on
abbrev pub text_left : (ℕ → Cell) → List Axis → ℕ → ℕ → List ℕ
text_left f E left i = axes_on f (axes_left E left) i

module _ (E : List Axis) (left : ℕ) (k : left ≤ length E) where
  left-more : 0 < left → axes_left E left ≡ axis_left E left ∷ axes_left E (left - 1)
  left-more h =
      let e : length E - (left - 1) ≡ suc (length E - left) = omega arith in
      rw e (drop-cons E (length E - left) no_axis (omega arith))

  left_one : left ≡ 1 → axes_left E left ≡ axis_left E left ∷ []
  left_one e = left-more (omega arith) ∙ rw (drop_of_length-le E {i = length E - (left - 1)} (omega arith))

  pub text-one : (f : ℕ → Cell) → left ≡ 1 → (i : ℕ) → text_left f E left i ≡ row_of (width (axis_left E left)) (cell_on f) 1 i
  text-one f e i = rw (left_one e) (brackets-one f (axis_left E left) i)

  pub text-more : (f : ℕ → Cell) → 1 < left → (i : ℕ)
      → text_left f E left i ≡ row_of (width (axis_left E left)) (text_left f E (left - 1)) (size_left E (left - 1)) i
  text-more f h i =
      rw (left-more (omega arith)) (brackets-more f (axis_left E left) (axes_left E (left - 1)) i (simp length-drop (omega arith)))

  pub size-one : left ≡ 1 → size_left E left ≡ width (axis_left E left)
  unfolding cells
  size-one e = rw (left_one e) (mul-one (width (axis_left E left)))

  pub size-more : 0 < left → size_left E left ≡ width (axis_left E left) * size_left E (left - 1)
  unfolding cells
  size-more h = rw (left-more h)

-- all of them
pub all_left : (E : List Axis) → axes_left E (length E) ≡ E
all_left E = rw sub_self
