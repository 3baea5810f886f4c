-- When a result is empty. Arithmetic and comparisons: where they don't refuse, exactly if an operand is empty. AND and OR are not among
-- them: FALSE AND empty is FALSE. Is-empty, is-true, is-false and is-unknown: never.
use Rattle.std.specs.Prelude.{ℕ, ◌≡◌, refl, Bool, true, false, not, ◌&&◌, ◌||◌, T, leb, ℤ, pos, ◌+ℤ◌, ◌-ℤ◌, ◌*ℤ◌, if◌then◌else◌, Ok, Err}
use Rattle.std.proofs.Common.{sym, ap, ◌∙◌, subst, arith}
use Rattle.std.specs.Bool.{beq}
use Rattle.std.specs.Int.Signed.{lt_z, le_z, quot_z, rem_z}
use Rattle.std.specs.Float.Ieee as Ieee
use Rattle.std.specs.Float.{binary64, fin}
use Rattle.paper.specs.Limits.{INT, FLOAT, BOOLEAN, smallest_int, largest_int}
use Rattle.paper.specs.Cells.{finite, is_true, is_false}
use Rattle.paper.specs.Operators.{pair_no, single_no, takes, takes_one, two, worked, compared, applied, pair_cell, empty_cell, Answer}
use Rattle.paper.specs.Operators.{signed, single_cell, fit_int, fit_float, int_by, float_div, eq_z}
use Rattle.paper.specs.declared.Cell.{Cell}
use Rattle.paper.specs.declared.Cell.TheVariants.{Empty, Int, Float, Truth}
use Rattle.paper.specs.declared.Two.{Two}
use Rattle.paper.specs.declared.Two.TheVariants.{Ints, Floats, Truths, OneEmpty}
use Rattle.paper.specs.declared.PairOp.{PairOp}
use Rattle.paper.specs.declared.PairOp.TheVariants.{Add, Sub, Mul, Div, Mod, Eq, Ne, Lt, Le, Gt, Ge, And, Or}
use Rattle.paper.specs.declared.SingleOp.{SingleOp}
use Rattle.paper.specs.declared.SingleOp.TheVariants.{Negate, Absolute, Not, IsEmpty, IsTrue, IsFalse, IsUnknown}
use Rattle.laws.specs.Cells.{OfKind}

-- the operators up to >=, arithmetic and comparisons; after them come AND and OR
abbrev pub not_logic : PairOp → Bool
not_logic o = leb (pair_no o) (pair_no Ge)

-- the cell given, if one is, is empty exactly if e
abbrev pub EmptyIf : Bool → Answer → Type 0
EmptyIf e (Ok c) = empty_cell c ≡ e
EmptyIf e (Err n) = Unit {0}

by : (e b : Bool) (x y : Answer) → EmptyIf e x → EmptyIf e y → EmptyIf e (if b then x else y)
by e true x y f g = f
by e false x y f g = g

-- ---- numbers: filled, or refused

filled-int : (z : ℤ) → EmptyIf false (fit_int z)
unfolding fit_int
filled-int z = by false (le_z smallest_int z && le_z z largest_int) (Ok (Int z)) _ refl tt

filled-float : (x : Ieee.Float) → EmptyIf false (fit_float x)
unfolding fit_float
filled-float x = by false (finite x) (Ok (Float x)) _ refl tt

filled-by : (f : ℤ → ℤ → ℤ) (x y : ℤ) → EmptyIf false (int_by f x y)
unfolding int_by
filled-by f x y = by false (eq_z y (pos 0)) _ (fit_int (f x y)) tt (filled-int (f x y))

filled-over : (x y : Ieee.Float) → EmptyIf false (float_div x y)
unfolding float_div
filled-over x y =
    by false (Ieee.eq y (fin false 0 (pos 0))) _ (fit_float (Ieee.div binary64 x y)) tt (filled-float (Ieee.div binary64 x y))

-- ---- two cells of one type, whatever is made of them: empty where one is empty, else filled

-- two cells of one type are not of two
unlike : {kind k l : ℕ} → kind ≡ k → kind ≡ l → (k ≡ l → ⊥) → ⊥
unlike e f n = n (sym e ∙ f)

module _ (made : Two → Answer) (kind : ℕ) (none : EmptyIf true (made OneEmpty))
    (ints : kind ≡ INT → (x y : ℤ) → EmptyIf false (made (Ints x y)))
    (floats : kind ≡ FLOAT → (x y : Ieee.Float) → EmptyIf false (made (Floats x y)))
    (truths : kind ≡ BOOLEAN → (x y : Bool) → EmptyIf false (made (Truths x y))) where
  empty-two : (a b : Cell) → OfKind kind a → OfKind kind b → EmptyIf (empty_cell a || empty_cell b) (made (two a b))
  unfolding two OfKind
  empty-two Empty b h k = none
  empty-two (Int x) Empty h k = none
  empty-two (Int x) (Int y) h k = ints h.0 x y
  empty-two (Int x) (Float y) h k = absurd (unlike h.0 k.0 (λ e. omega arith))
  empty-two (Int x) (Truth y) h k = absurd (unlike h.0 k (λ e. omega arith))
  empty-two (Float x) Empty h k = none
  empty-two (Float x) (Int y) h k = absurd (unlike h.0 k.0 (λ e. omega arith))
  empty-two (Float x) (Float y) h k = floats h.0 x y
  empty-two (Float x) (Truth y) h k = absurd (unlike h.0 k (λ e. omega arith))
  empty-two (Truth x) Empty h k = none
  empty-two (Truth x) (Int y) h k = absurd (unlike h k.0 (λ e. omega arith))
  empty-two (Truth x) (Float y) h k = absurd (unlike h k.0 (λ e. omega arith))
  empty-two (Truth x) (Truth y) h k = truths h x y

empty-worked : (f : ℤ → ℤ → Answer) (g : Ieee.Float → Ieee.Float → Answer) (kind : ℕ) → ((x y : ℤ) → EmptyIf false (f x y))
    → (kind ≡ FLOAT → (x y : Ieee.Float) → EmptyIf false (g x y)) → (kind ≡ BOOLEAN → ⊥)
    → (a b : Cell) → OfKind kind a → OfKind kind b → EmptyIf (empty_cell a || empty_cell b) (worked f g (two a b))
unfolding worked
empty-worked f g kind ints floats number = empty-two (worked f g) kind refl (λ e. ints) floats (λ e x y. absurd (number e))

empty-compared : (f : ℤ → ℤ → Bool) (g : Ieee.Float → Ieee.Float → Bool) (h : Bool → Bool → Bool) (kind : ℕ)
    → (a b : Cell) → OfKind kind a → OfKind kind b → EmptyIf (empty_cell a || empty_cell b) (compared f g h (two a b))
unfolding compared
empty-compared f g h kind = empty-two (compared f g h) kind refl (λ e x y. refl) (λ e x y. refl) (λ e x y. refl)

-- a type that an operator takes is none that it doesn't take
other : (takes? : ℕ → Bool) (kind k : ℕ) → takes? kind ≡ true → takes? k ≡ false → kind ≡ k → ⊥
other takes? kind k y n e = subst T (sym y ∙ ap takes? e ∙ n) tt

no : false ≡ true → ⊥
no e = subst T (sym e) tt

pub empty-pair : (o : PairOp) (kind : ℕ) (a b : Cell) → not_logic o ≡ true → takes o kind ≡ true → OfKind kind a → OfKind kind b
    → EmptyIf (empty_cell a || empty_cell b) (pair_cell o a b)
unfolding applied takes
empty-pair Add kind a b n t =
    empty-worked _ _ kind (λ x y. filled-int (x +ℤ y)) (λ f x y. filled-float (Ieee.add binary64 x y))
    (other (takes Add) kind BOOLEAN t refl) a b
empty-pair Sub kind a b n t =
    empty-worked _ _ kind (λ x y. filled-int (x -ℤ y)) (λ f x y. filled-float (Ieee.sub binary64 x y))
    (other (takes Sub) kind BOOLEAN t refl) a b
empty-pair Mul kind a b n t =
    empty-worked _ _ kind (λ x y. filled-int (x *ℤ y)) (λ f x y. filled-float (Ieee.mul binary64 x y))
    (other (takes Mul) kind BOOLEAN t refl) a b
empty-pair Div kind a b n t =
    empty-worked (int_by quot_z) float_div kind (filled-by quot_z) (λ f. filled-over) (other (takes Div) kind BOOLEAN t refl) a b
empty-pair Mod kind a b n t =
    empty-worked (int_by rem_z) (λ x y. Ok Empty) kind (filled-by rem_z) (λ f x y. absurd (other (takes Mod) kind FLOAT t refl f))
    (other (takes Mod) kind BOOLEAN t refl) a b
empty-pair Eq kind a b n t = empty-compared eq_z Ieee.eq beq kind a b
empty-pair Ne kind a b n t = empty-compared (λ x y. not (eq_z x y)) Ieee.ne (λ x y. not (beq x y)) kind a b
empty-pair Lt kind a b n t = empty-compared lt_z Ieee.lt (λ x y. false) kind a b
empty-pair Le kind a b n t = empty-compared le_z Ieee.le (λ x y. false) kind a b
empty-pair Gt kind a b n t = empty-compared (λ x y. lt_z y x) (λ x y. Ieee.lt y x) (λ x y. false) kind a b
empty-pair Ge kind a b n t = empty-compared (λ x y. le_z y x) (λ x y. Ieee.le y x) (λ x y. false) kind a b
empty-pair And kind a b n t = absurd (no n)
empty-pair Or kind a b n t = absurd (no n)

-- ---- one cell

empty-signed : (f : ℤ → ℤ) (g : Ieee.Float → Ieee.Float) (kind : ℕ) (c : Cell) → (kind ≡ BOOLEAN → ⊥) → OfKind kind c
    → EmptyIf (empty_cell c) (signed f g c)
unfolding signed OfKind
empty-signed f g kind Empty n h = refl
empty-signed f g kind (Int x) n h = filled-int (f x)
empty-signed f g kind (Float x) n h = refl
empty-signed f g kind (Truth b) n h = absurd (n h)

empty-one : (o : SingleOp) (kind : ℕ) (a : Cell) → leb (single_no o) (single_no Absolute) ≡ true → takes_one o kind ≡ true
    → OfKind kind a → EmptyIf (empty_cell a) (single_cell o a)
unfolding single_cell takes_one
empty-one Negate kind a n t = empty-signed _ _ kind a (other (takes_one Negate) kind BOOLEAN t refl)
empty-one Absolute kind a n t = empty-signed _ _ kind a (other (takes_one Absolute) kind BOOLEAN t refl)
empty-one Not kind a n t = absurd (no n)
empty-one IsEmpty kind a n t = absurd (no n)
empty-one IsTrue kind a n t = absurd (no n)
empty-one IsFalse kind a n t = absurd (no n)
empty-one IsUnknown kind a n t = absurd (no n)

-- arithmetic on one cell, negate and absolute: likewise
pub single-empty : (o : SingleOp) (kind : ℕ) (a c : Cell) → leb (single_no o) (single_no Absolute) ≡ true → takes_one o kind ≡ true
    → OfKind kind a → single_cell o a ≡ Ok c → empty_cell c ≡ empty_cell a
single-empty o kind a c n t h e = subst (EmptyIf (empty_cell a)) e (empty-one o kind a n t h)

-- is-empty, is-true, is-false and is-unknown give TRUE or FALSE, whatever the cell
pub never-empty : (o : SingleOp) (a : Cell) → leb (single_no IsEmpty) (single_no o) ≡ true → (b : Bool) × (single_cell o a ≡ Ok (Truth b))
unfolding single_cell
never-empty Negate a n = absurd (no n)
never-empty Absolute a n = absurd (no n)
never-empty Not a n = absurd (no n)
never-empty IsEmpty a n = (empty_cell a, refl)
never-empty IsTrue a n = (is_true a, refl)
never-empty IsFalse a n = (is_false a, refl)
never-empty IsUnknown a n = (empty_cell a, refl)
