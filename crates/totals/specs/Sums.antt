-- The running sums: what one cell more does to the exact total and to the mean, whether it is filled or not, and the sum of all cells.
use Rattle.std.specs.Prelude.{ℕ, ◌+◌, ◌≤◌, ◌<◌, ◌≡◌, refl, Bool, true, false, List, [], ◌∷◌, ◌++◌, length, if◌then◌else◌, Result, Ok, Err, Some, None, Option}
use Rattle.std.specs.List.{FoldsTo}
use Rattle.std.proofs.Common.{subst, sym, ◌∙◌, append-nil, append_assoc, arith, length-append}
use Rattle.std.proofs.Math.Path.{ap}
use Rattle.std.specs.Option.{ok_or}
use Rattle.std.specs.Float.Ieee as Ieee
use Rattle.paper.specs.declared.Cell.{Cell}
use Rattle.paper.specs.declared.Cell.TheVariants.{Empty}
use Rattle.paper.specs.Limits.{most_cells}
use Rattle.paper.specs.Refusals.{Res, ◌>>=◌, refusal, no_fit12}
use Rattle.paper.specs.Operators.{empty_cell}
use Rattle.paper.specs.declared.Totalled.{Totalled}
use Rattle.paper.specs.declared.Totalled.TheVariants.{Is}
use Rattle.paper.specs.Totals.{Numbered, Running, int, float, filled_from, float_sum, average}
use Rattle.cell.specs.declared.sums.Exact.{Exact}
use Rattle.cell.specs.declared.means.Mean.{Mean}
use Rattle.cell.specs.Totals.{Sums, onward, after, counted}
use Rattle.totals.specs.Cells.{cells_at, in_front}

-- ---- the exact total: the filled ones of the cells gone in

-- one cell more, filled or not
abbrev pub ExactNext : Exact → Cell → Exact → Type 0
ExactNext t c r = (cs : List Numbered) (o : ℕ) → Sums t cs → length cs < most_cells → Sums r (cs ++ in_front c o [])

front-append : (b : Bool) (d : Numbered) (later : List Numbered) → (if b then [] else d ∷ []) ++ later ≡ (if b then later else d ∷ later)
front-append true d later = refl
front-append false d later = refl

front-one : (b : Bool) (d : Numbered) → length (if b then [] else d ∷ []) ≤ 1
front-one true d = omega arith
front-one false d = omega arith

-- t holds some cells; with these after them it holds all
pub exact-folds : (cs : List Cell) (o : ℕ) (gone : List Numbered) (t r : Exact) → FoldsTo ExactNext t cs r → Sums t gone
    → length gone + length cs ≤ most_cells → Sums r (gone ++ filled_from o cs)
unfolding filled_from
exact-folds [] o gone t r f s h = rw append-nil (subst (λ (x : Exact). Sums x gone) f s)
exact-folds (c ∷ cs) o gone t r f s h =
    let one = in_front c o [] in
    let few : length (gone ++ one) + length cs ≤ most_cells =
    omega (arith, length-append gone one, front-one (empty_cell c) (record { at = o; cell = c })) in
    rw (append_assoc, front-append (empty_cell c)) at (exact-folds cs (o + 1) (gone ++ one) f.0 r f.2 (f.1 gone o s (omega arith)) few)

-- an empty cell adds nothing; a filled one its number
pub exact-empty : (t : Exact) → ExactNext t Empty t
exact-empty t cs o s h = rw append-nil s

pub exact-filled : {t r : Exact} (c : Cell) → empty_cell c ≡ false
    → ((cs : List Numbered) (d : Numbered) → Sums t cs → int d.cell ≡ int c → length cs < most_cells → Sums r (cs ++ (d ∷ [])))
    → ExactNext t c r
exact-filled c e f cs o s h = rw e (f cs (record { at = o; cell = c }) s refl h)

-- ---- the mean

-- one cell more, filled or not
pub record MeanNext (m : Mean) (c : Cell) (r : Option Mean) : Type 0 where
  pub goes : (made : Running → Ieee.Float) (k o : ℕ) (cs : List Numbered) → m.count < most_cells
      → onward made k m (in_front c o cs) ≡ after made k o r cs
  pub few : counted r ≤ m.count + 1

pub mean-empty : (m : Mean) → MeanNext m Empty (Some m)
unfolding after
mean-empty m = record { goes = λ made k o cs h. refl; few = omega arith }

pub mean-filled : {m : Mean} {c : Cell} {r : Option Mean} → empty_cell c ≡ false → {x : Ieee.Float} → float c ≡ x
    → ((made : Running → Ieee.Float) (k : ℕ) (d : Numbered) (cs : List Numbered) → float d.cell ≡ x → m.count < most_cells
    → onward made k m (d ∷ cs) ≡ after made k d.at r cs) × (counted r ≤ m.count + 1) → MeanNext m c r
mean-filled {c = c} e q f = record { goes = λ made k o cs h. rw e (f.0 made k (record { at = o; cell = c }) cs q h); few = f.1 }

-- what is left to do with the cells left is what is to be done with all
pub record Going (m : Mean) (all left : List Numbered) (i : ℕ) : Type 0 where
  pub same : (made : Running → Ieee.Float) (k : ℕ) → onward made k m left ≡ float_sum made k all
  pub few : m.count ≤ i

-- the sum of all cells: the mean that stands for it, or the ordinality of the cell whose addition fails
abbrev pub Summed : List ℕ → ℕ → ℕ → ℕ → Result Mean ℕ → Type 0
Summed bs at t n (Ok m) =
    (made : Running → Ieee.Float) (k : ℕ) → onward made k m [] ≡ float_sum made k (filled_from 1 (cells_at bs at t n))
Summed bs at t n (Err o) =
    ((made : Running → Ieee.Float) (k : ℕ) → Err (refusal no_fit12 k o) ≡ float_sum made k (filled_from 1 (cells_at bs at t n))) × (o ≤ n)

-- an option or an error: the value or the error
some-of : {A E : Type 0} (r : Option A) (e : E) {a : A} → Ok a ≡ ok_or r e → r ≡ Some a
some-of (Some b) e q = cc
some-of None e q = cc

none-of : {A E : Type 0} (r : Option A) (e : E) {o : E} → Err o ≡ ok_or r e → (r ≡ None) × (o ≡ e)
none-of (Some b) e q = cc
none-of None e q = (refl, cc)

module _ {m : Mean} {all left : List Numbered} (later : List Numbered) {i : ℕ} {c : Cell} {r : Option Mean} (v : Going m all left i)
    (h : i < most_cells) (e : left ≡ in_front c (i + 1) later) (x : MeanNext m c r) where
  after-all : (made : Running → Ieee.Float) (k : ℕ) → after made k (i + 1) r later ≡ float_sum made k all
  after-all made k = sym (x.goes made k (i + 1) later (omega (arith, v.few))) ∙ (rw e at (v.same made k))

  -- with its sum, or with the cell's ordinality where the addition fails
  pub going_next : {w : Mean} → Ok w ≡ ok_or r (i + 1) → Going w all later (i + 1)
  unfolding after
  going_next q =
      let p = some-of r _ q in record { same = λ made k. rw p at (after-all made k); few = omega (arith, v.few, x.few, ap counted p) }

  pub going-fails : {o : ℕ} → Err o ≡ ok_or r (i + 1)
      → ((made : Running → Ieee.Float) (k : ℕ) → Err (refusal no_fit12 k o) ≡ float_sum made k all) × (o ≡ i + 1)
  unfolding after
  going-fails q = let p = none-of r _ q in (λ made k. rw p.1 (rw p.0 at (after-all made k)), p.1)

-- ---- the answers

-- a sum as a total
abbrev pub as_total : Res Cell → Res Totalled
as_total r = r >>= (λ c. Ok (Is c))

-- the average, or the sum
abbrev pub made_of : Bool → Running → Ieee.Float
made_of mean r = if mean then average r else r.sum
