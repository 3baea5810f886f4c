-- The cells of an array one after the other, from their bytes: what is filled, and what is TRUE, of the cells left.
use Rattle.std.specs.Prelude.{ℕ, ◌+◌, ◌*◌, ◌≤◌, ◌<◌, ◌≡◌, refl, Bool, true, false, List, [], ◌∷◌, length, drop, if◌then◌else◌}
use Rattle.std.proofs.Math.Path.{ap}
use Rattle.std.proofs.Common.{add-one, arith, drop_of_length-le, drop-cons, drop-drop}
use Rattle.paper.specs.declared.Cell.{Cell}
use Rattle.paper.specs.declared.Cell.TheVariants.{Empty}
use Rattle.paper.specs.Limits.{most_cells, cell_bytes}
use Rattle.paper.specs.Numbers.{part}
use Rattle.paper.specs.Cells.{cell_of, is_true, trues}
use Rattle.paper.specs.Operators.{empty_cell}
use Rattle.paper.specs.Totals.{Numbered, filled_from}
use Rattle.laws.specs.Judged.{or_empty, cells_from, cell-no, length-cells}

-- n cells lie in the bytes from `at` on
pub record Lying (at n : ℕ) (bs : List ℕ) : Type 0 where
  pub few : n ≤ most_cells
  pub room : at + n * cell_bytes ≤ length bs

-- they are
abbrev pub cells_at : List ℕ → ℕ → ℕ → ℕ → List Cell
cells_at bs at t n = cells_from t n (drop at bs)

-- cell i of them, from 0
abbrev pub one_at : List ℕ → ℕ → ℕ → ℕ → Cell
one_at bs at t i = or_empty (cell_of t (part (at + i * cell_bytes) cell_bytes bs))

-- 1 for a cell that is TRUE; the same, or for a filled cell
abbrev pub tally_true : Cell → ℕ
tally_true c = if is_true c then 1 else 0

abbrev pub tally_of : Bool → Cell → ℕ
tally_of true c = tally_true c
tally_of false c = if empty_cell c then 0 else 1

-- how many are TRUE, or filled
unfoldable pub counted : Bool → List Cell → ℕ
counted t [] = 0
counted t (c ∷ cs) = tally_of t c + counted t cs

-- ---- the next cell

-- a cell in front of those filled, if it is
abbrev pub in_front : Cell → ℕ → List Numbered → List Numbered
in_front c o later = if empty_cell c then later else record { at = o; cell = c } ∷ later

length-if : {A : Type 0} (b : Bool) (a : A) (l : List A) → length (if b then a ∷ l else l) ≡ (if b then 1 else 0) + length l
length-if true a l = omega arith
length-if false a l = omega arith

pub counted-true : (o : ℕ) (cs : List Cell) → counted true cs ≡ length (trues o cs)
unfolding counted trues
counted-true o [] = refl
counted-true o (c ∷ cs) = rw (length-if (is_true c) o (trues (o + 1) cs), counted-true (o + 1) cs)

length-unless : {A : Type 0} (b : Bool) (a : A) (l : List A) → length (if b then l else a ∷ l) ≡ (if b then 0 else 1) + length l
length-unless true a l = omega arith
length-unless false a l = omega arith

pub counted-filled : (o : ℕ) (cs : List Cell) → counted false cs ≡ length (filled_from o cs)
unfolding counted filled_from
counted-filled o [] = refl
counted-filled o (c ∷ cs) = rw (length-unless (empty_cell c) _ (filled_from (o + 1) cs), counted-filled (o + 1) cs)

at_most_one : (b : Bool) {x y : ℕ} → x ≤ 1 → y ≤ 1 → (if b then x else y) ≤ 1
at_most_one true p q = p
at_most_one false p q = q

pub tally-one : (t : Bool) (c : Cell) → tally_of t c ≤ 1
tally-one true c = at_most_one (is_true c) (omega arith) (omega arith)
tally-one false c = at_most_one (empty_cell c) (omega arith) (omega arith)

module _ (bs : List ℕ) (at t n : ℕ) where
  abbrev cs : List Cell
  cs = cells_at bs at t n

  -- what is filled of the cells from i on
  abbrev pub filled_left : ℕ → List Numbered
  filled_left i = filled_from (i + 1) (drop i (cells_at bs at t n))

  module _ (i : ℕ) (h : i < n) where
    pub cell-next : drop i cs ≡ one_at bs at t i ∷ drop (i + 1) cs
    cell-next =
        let l : i < length cs = omega (arith, length-cells t n (drop at bs)) in
        rw (add-one, drop-cons cs i Empty, cell-no n t i (drop at bs) h, drop-drop (i * cell_bytes) at bs)

    pub filled_next : filled_left i ≡ in_front (one_at bs at t i) (i + 1) (filled_left (i + 1))
    unfolding filled_from
    filled_next = ap (filled_from (i + 1)) cell-next

    pub counted_next : (v : Bool) → counted v (drop i cs) ≡ tally_of v (one_at bs at t i) + counted v (drop (i + 1) cs)
    unfolding counted
    counted_next v = ap (counted v) cell-next

  module _ (i : ℕ) (h : n ≤ i) where
    pub none_left : drop i cs ≡ []
    none_left = drop_of_length-le cs {i = i} (omega (arith, length-cells t n (drop at bs)))

    pub filled_none : filled_left i ≡ []
    unfolding filled_from
    filled_none = ap (filled_from (i + 1)) none_left

    pub counted_none : (v : Bool) → counted v (drop i cs) ≡ 0
    unfolding counted
    counted_none v = ap (counted v) none_left
