-- What an operator gives is a cell of its result's type: a number that fits, a finite FLOAT, a truth value, or nothing. So it can be
-- written, and read back as the same cell.
use Rattle.std.specs.Prelude.{ℕ, ◌≡◌, refl, Bool, true, false, ◌&&◌, T, ℤ, pos, if◌then◌else◌, Ok, Err}
use Rattle.std.proofs.Common.{sym, subst, arith}
use Rattle.std.specs.Int.Signed.{le_z}
use Rattle.std.specs.Float.Ieee as Ieee
use Rattle.std.specs.Float.{binary64, nan, inf, fin}
use Rattle.std.specs.Int.{w64}
use Rattle.paper.specs.Limits.{INT, FLOAT, BOOLEAN, smallest_int, largest_int}
use Rattle.paper.specs.Cells.{finite}
use Rattle.paper.specs.Operators.{two, worked, compared, fit_int, fit_float, int_by, eq_z, abs_float, signed, Answer}
use Rattle.paper.specs.declared.Cell.{Cell}
use Rattle.paper.specs.declared.Cell.TheVariants.{Empty, Int, Float, Truth}
use Rattle.paper.specs.declared.Two.{Two}
use Rattle.paper.specs.declared.Two.TheVariants.{Ints, Floats, Truths, OneEmpty, Unlike}
use Rattle.laws.specs.Tests.{and_left, and_right}
use Rattle.laws.specs.Parts.{one-part, le_yes, parts-fit}
use Rattle.laws.specs.Cells.{OfKind}

-- a cell of the type, or a refusal
abbrev pub Fine : ℕ → Answer → Type 0
Fine kind (Ok c) = OfKind kind c
Fine kind (Err n) = Unit {0}

pub by : (kind : ℕ) (b : Bool) (x y : Answer) → (b ≡ true → Fine kind x) → Fine kind y → Fine kind (if b then x else y)
by kind true x y f g = f refl
by kind false x y f g = g

-- ---- numbers

pub fine-int : (z : ℤ) → Fine INT (fit_int z)
unfolding fit_int OfKind
fine-int z =
    by INT (le_z smallest_int z && le_z z largest_int) (Ok (Int z)) _
    (λ e. (refl, parts-fit w64 z (omega (arith, one-part z, le_yes smallest_int z (and_left (le_z smallest_int z) (le_z z largest_int) e), le_yes z largest_int (and_right (le_z smallest_int z) (le_z z largest_int) e)))))
    tt

pub fine-float : (x : Ieee.Float) → T (Ieee.fits binary64 x) → Fine FLOAT (fit_float x)
unfolding fit_float OfKind
fine-float x h = by FLOAT (finite x) (Ok (Float x)) _ (λ e. (refl, (h, subst T (sym e) tt))) tt

pub fine-by : (f : ℤ → ℤ → ℤ) (x y : ℤ) → Fine INT (int_by f x y)
unfolding int_by
fine-by f x y = by INT (eq_z y (pos 0)) _ (fit_int (f x y)) (λ e. tt) (fine-int (f x y))

-- an empty cell is of every type
pub nothing : (kind : ℕ) → OfKind kind Empty
unfolding OfKind
nothing kind = tt

pub truth : (b : Bool) → OfKind BOOLEAN (Truth b)
unfolding OfKind
truth b = refl

-- ---- two cells

pub fine-worked : (f : ℤ → ℤ → Answer) (g : Ieee.Float → Ieee.Float → Answer) → ((x y : ℤ) → Fine INT (f x y))
    → ((x y : Ieee.Float) → Fine FLOAT (g x y))
    → (kind : ℕ) (a b : Cell) → OfKind kind a → Fine kind (worked f g (two a b))
unfolding worked two OfKind
fine-worked f g p q kind Empty b h = tt
fine-worked f g p q kind (Int x) Empty h = tt
fine-worked f g p q kind (Int x) (Int y) h = subst (λ (k : ℕ). Fine k (f x y)) (sym h.0) (p x y)
fine-worked f g p q kind (Int x) (Float y) h = tt
fine-worked f g p q kind (Int x) (Truth y) h = tt
fine-worked f g p q kind (Float x) Empty h = tt
fine-worked f g p q kind (Float x) (Int y) h = tt
fine-worked f g p q kind (Float x) (Float y) h = subst (λ (k : ℕ). Fine k (g x y)) (sym h.0) (q x y)
fine-worked f g p q kind (Float x) (Truth y) h = tt
fine-worked f g p q kind (Truth x) Empty h = tt
fine-worked f g p q kind (Truth x) (Int y) h = tt
fine-worked f g p q kind (Truth x) (Float y) h = tt
fine-worked f g p q kind (Truth x) (Truth y) h = tt

pub fine-compared : (f : ℤ → ℤ → Bool) (g : Ieee.Float → Ieee.Float → Bool) (h : Bool → Bool → Bool) (t : Two) → Fine BOOLEAN (compared f g h t)
unfolding compared
fine-compared f g h (Ints x y) = truth (f x y)
fine-compared f g h (Floats x y) = truth (g x y)
fine-compared f g h (Truths x y) = truth (h x y)
fine-compared f g h OneEmpty = nothing BOOLEAN
fine-compared f g h Unlike = nothing BOOLEAN

-- a truth value, another one, or unknown
pub one_of : (p q u v : Bool) → OfKind BOOLEAN (if p then Truth u else (if q then Truth v else Empty))
one_of true q u v = truth u
one_of false true u v = truth v
one_of false false u v = nothing BOOLEAN

-- ---- one cell: the sign of a FLOAT alone changes

pub neg-finite : (x : Ieee.Float) → T (finite x) → T (finite (Ieee.neg x))
unfolding finite Ieee.neg
neg-finite nan h = h
neg-finite (inf s) h = h
neg-finite (fin s m e) h = tt

pub abs-finite : (x : Ieee.Float) → T (finite x) → T (finite (abs_float x))
unfolding finite abs_float
abs-finite nan h = h
abs-finite (inf s) h = h
abs-finite (fin s m e) h = tt

pub abs-fits : (x : Ieee.Float) → T (Ieee.fits binary64 x) → T (Ieee.fits binary64 (abs_float x))
unfolding Ieee.fits abs_float
abs-fits nan h = h
abs-fits (inf s) h = h
abs-fits (fin s m e) h = h

pub fine-signed : (f : ℤ → ℤ) (g : Ieee.Float → Ieee.Float) → ((x : Ieee.Float) → T (finite x) → T (finite (g x)))
    → ((x : Ieee.Float) → T (Ieee.fits binary64 x) → T (Ieee.fits binary64 (g x))) → (kind : ℕ) (c : Cell) → OfKind kind c → Fine kind (signed f g c)
unfolding signed OfKind
fine-signed f g p q kind Empty h = tt
fine-signed f g p q kind (Int x) h = subst (λ (k : ℕ). Fine k (fit_int (f x))) (sym h.0) (fine-int (f x))
fine-signed f g p q kind (Float x) h = (h.0, (q x h.1.0, p x h.1.1))
fine-signed f g p q kind (Truth b) h = tt
