-- How long the text of an array is: the bytes of its brackets and commas, by its axes alone, and those of its cells.
use Prim.Native.Nat.{ℕ, zero, suc, ◌+◌, ◌-◌, ◌*◌, ◌≤◌, ◌<◌}
use Rattle.std.specs.Prelude.{◌≡◌, refl, true, false, ℤ}
use Rattle.std.proofs.Math.Path.{ap}
use Rattle.std.proofs.Common.{◌∙◌, zero-add, add-zero, suc-add, mul-le-mul_left, mul-le-mul_right}
use mathlib.Core.List.{List, [], ◌∷◌, map}
use native.Mathlib.Omega.{arith}
use Rattle.std.proofs.Math.Nat.{suc-mul}
use Rattle.std.proofs.Math.ListN.{length, length-append}
use Rattle.paper.specs.declared.Axis.{Axis}
use Rattle.paper.specs.declared.Cell.{Cell}
use Rattle.paper.specs.declared.Cell.TheVariants.{Empty, Int, Float, Truth}
use Rattle.paper.specs.Limits.{most_axes, most_cells}
use Rattle.paper.specs.Numbers.{text, from}
use Rattle.paper.specs.Axes.{width, cells}
use Rattle.paper.specs.Rests.{decimal}
use Rattle.paper.specs.Json.{cell_text, json_text}
use Rattle.laws.specs.Limits.{Sound, cells-pos}
use Rattle.decimal.specs.Digits.{most_signed, decimal-most}
use Rattle.json_write.specs.Texts.{comma, items, row_of, row-length, cell_on, axes_on, brackets-one, brackets-more}

-- ---- brackets and commas

-- two brackets, a comma between two positions, and at each position those of the axes after it
unfoldable pub marks : List Axis → ℕ
marks [] = 0
marks (a ∷ E) = 1 + width a + width a * marks E

-- how many they are at most: an axis of one position has two for each cell
step-most : (w c r m : ℕ) → 1 ≤ c → m + c ≤ r * (2 * c) + 1 → 1 + w + w * m + w * c ≤ suc r * (2 * (w * c)) + 1
step-most w c r m p h = omega (arith, mul-le-mul_left w h, mul-le-mul_left w p)

pub marks-most : (E : List Axis) → Sound E → marks E + cells E ≤ length E * (2 * cells E) + 1
unfolding marks cells
marks-most [] s = omega arith
marks-most (a ∷ E) s = step-most (width a) (cells E) (length E) (marks E) (cells-pos E s.2) (marks-most E s.2)

pub marks-few : (E : List Axis) → Sound E → length E ≤ most_axes → cells E ≤ most_cells → marks E ≤ 2 * (most_axes * most_cells)
marks-few E s r c = omega (arith, marks-most E s, cells-pos E s, mul-le-mul_right (2 * cells E) r)

-- ---- cells

-- the bytes of n cells' texts, from cell i on
unfoldable pub cells_long : (ℕ → Cell) → ℕ → ℕ → ℕ
cells_long f i zero = 0
cells_long f i (suc n) = length (cell_text (f i)) + cells_long f (i + 1) n

-- for a loop that counts up to n
pub long-more : (f : ℕ → Cell) (i n : ℕ) → i < n → cells_long f i (n - i) ≡ length (cell_text (f i)) + cells_long f (i + 1) (n - (i + 1))
unfolding cells_long
long-more f i n h = let e : n - i ≡ suc (n - (i + 1)) = omega arith in ap (cells_long f i) e

pub long-end : (f : ℕ → Cell) (i n : ℕ) → n ≤ i → cells_long f i (n - i) ≡ 0
unfolding cells_long
long-end f i n h = let e : n - i ≡ 0 = omega arith in ap (cells_long f i) e

long-split : (f : ℕ → Cell) (m n i : ℕ) → cells_long f i (m + n) ≡ cells_long f i m + cells_long f (i + m) n
unfolding cells_long
long-split f zero n i = simp (zero-add, add-zero)
long-split f (suc m) n i =
    let k : i + suc m ≡ i + 1 + m = omega arith in
    rw (suc-add, k) (omega (arith, long-split f m n (i + 1)))

pub long-most : (f : ℕ → Cell) (m : ℕ) → ((k : ℕ) → length (cell_text (f k)) ≤ m) → (n i : ℕ) → cells_long f i n ≤ n * m
unfolding cells_long
long-most f m h zero i = omega arith
long-most f m h (suc n) i = omega (arith, h i, long-most f m h n (i + 1), suc-mul n m)

pub cell-most : (c : Cell) {m : ℕ} → 5 ≤ m → ((z : ℤ) → c ≡ Int z → length (decimal z) ≤ m) → length (cell_text c) ≤ m
unfolding cell_text
cell-most Empty h f = omega arith
cell-most (Int z) h f = f z refl
cell-most (Float x) h f = omega arith
cell-most (Truth true) h f = omega arith
cell-most (Truth false) h f = omega arith

pub cells-most : (f : ℕ → Cell) (n i : ℕ) → cells_long f i n ≤ n * most_signed
cells-most f n i = long-most f most_signed (λ k. cell-most (f k) (omega arith) (λ z e. decimal-most z)) n i

-- ---- the text

module _ (f : ℕ → Cell) where
  -- items of m bytes beside their s cells
  module _ (F : ℕ → List ℕ) (m s : ℕ) (h : (k : ℕ) → length (F k) ≡ m + cells_long f k s) where
    items-long : (n i : ℕ) → length (items (suc n) F s i) ≡ n + suc n * m + cells_long f i (suc n * s)
    unfolding items comma
    items-long zero i = let e : suc zero * s ≡ s = omega arith in rw e (omega (arith, length-append (F i) [], h i))
    items-long (suc n) i =
        let e : suc (suc n) * s ≡ s + suc n * s = suc-mul (suc n) s ∙ (omega arith) in
        rw (e, long-split) (omega (arith, length-append (F i) (44 ∷ items (suc n) F s (i + s)), h i, items-long n (i + s)))

    row-long : (w i : ℕ) → 0 < w → length (row_of w F s i) ≡ 1 + w + w * m + cells_long f i (w * s)
    row-long zero i p = absurd (omega arith)
    row-long (suc n) i p = omega (arith, row-length (suc n) F s i, items-long n i)

  pub brackets-long : (E : List Axis) → Sound E → 1 ≤ length E → (i : ℕ) → length (axes_on f E i) ≡ marks E + cells_long f i (cells E)
  unfolding marks cells cells_long
  brackets-long [] s h i = absurd (omega arith)
  brackets-long (a ∷ []) s h i =
      ap length (brackets-one f a i) ∙ row-long (cell_on f) 0 1 (λ k. omega arith) (width a) i (omega (arith, s.0))
  brackets-long (a ∷ b ∷ E) s h i =
      ap length (brackets-more f a (b ∷ E) i (omega arith))
      ∙ row-long (axes_on f (b ∷ E)) _ _ (brackets-long (b ∷ E) s.2 (omega arith)) (width a) i (omega (arith, s.0))

  pub json-long : (E : List Axis) → Sound E → 1 ≤ length E
      → length (json_text E (map f (from 0 (cells E)))) ≡ 9 + marks E + cells_long f 0 (cells E)
  json-long E s h = omega (arith, brackets-long E s h 0, length-append (axes_on f E 0) (text "}"))

  -- it is short
  pub json-short : (E : List Axis) → Sound E → length E ≤ most_axes → cells E ≤ most_cells
      → 9 + marks E + cells_long f 0 (cells E) ≤ 9 + 2 * (most_axes * most_cells) + most_cells * most_signed
  json-short E s r c = omega (arith, marks-few E s r c, cells-most f (cells E) 0, mul-le-mul_right most_signed c)
