-- Refusals that come from values: an operator at a cell, a step and a recipe refuse with 12 or 13 alone.
use Rattle.std.specs.Prelude.{ℕ, ◌+◌, ◌≡◌, refl, Bool, true, false, ◌&&◌, ◌⊎◌, List, [], ◌∷◌, ◌++◌, map, ℤ, pos, ◌+ℤ◌, ◌-ℤ◌, ◌*ℤ◌, if◌then◌else◌, Ok, Err}
use Rattle.std.proofs.Common.{subst, inl, inr}
use Rattle.std.specs.Int.Signed.{le_z, quot_z, rem_z}
use Rattle.std.specs.Float.Ieee.{add, div, eq}
use Rattle.std.specs.Float.{binary64, fin}
use Rattle.paper.specs.declared.Fault.TheVariants.{NoFit, ByZero}
use Rattle.paper.specs.declared.Cell.{Cell}
use Rattle.paper.specs.declared.Cell.TheVariants.{Empty, Int, Float, Truth}
use Rattle.paper.specs.declared.Refusal.{Refusal}
use Rattle.paper.specs.declared.PairOp.{PairOp}
use Rattle.paper.specs.declared.PairOp.TheVariants.{Add, Sub, Mul, Div, Mod, Eq, Ne, Lt, Le, Gt, Ge, And, Or}
use Rattle.paper.specs.declared.SingleOp.{SingleOp}
use Rattle.paper.specs.declared.SingleOp.TheVariants.{Negate, Absolute, Not, IsEmpty, IsTrue, IsFalse, IsUnknown}
use Rattle.paper.specs.declared.Operation.{Operation}
use Rattle.paper.specs.declared.Operation.TheVariants.{Moves, Works}
use Rattle.paper.specs.declared.Work.{Work}
use Rattle.paper.specs.declared.Work.TheVariants.{Pair, Scalar, Single}
use Rattle.paper.specs.declared.Hand.TheVariants.{Right, Left}
use Rattle.paper.specs.Limits.{smallest_int, largest_int}
use Rattle.paper.specs.Numbers.{from}
use Rattle.paper.specs.Refusals.{Res, ◌>>=◌, refusal, no_fit12, by_zero13, fault_no}
use Rattle.paper.specs.Axes.{build, at_offset, cells, at, Shape, Array}
use Rattle.paper.specs.Cells.{finite}
use Rattle.paper.specs.declared.Two.{Two}
use Rattle.paper.specs.declared.Two.TheVariants.{Ints, Floats, Truths, OneEmpty, Unlike}
use Rattle.paper.specs.Operators.{fit_int, fit_float, eq_z, int_by, float_div, two, worked, compared, signed, applied, answered, pair_cell, single_cell, Answer}
use Rattle.paper.specs.Recipe.{Step, Planned}
use Rattle.paper.specs.Values.{made, scalar, cell_at, settled, operand_array, value_of, values_from}
use Rattle.laws.specs.Tests.{bind-refused, none-refused}
use Rattle.std.specs.Float.Ieee as Ieee

-- ---- values: a refusal's number is 12 or 13

abbrev pub Either : ℕ → Type 0
Either n = (n ≡ no_fit12) ⊎ (n ≡ by_zero13)

abbrev pub Late : Answer → Type 0
Late (Ok c) = Unit {0}
Late (Err f) = Either (fault_no f)

if-late : (b : Bool) (x y : Answer) → Late x → Late y → Late (if b then x else y)
if-late true x y h g = h
if-late false x y h g = g

int-late : (z : ℤ) → Late (fit_int z)
unfolding fit_int
int-late z = if-late (le_z smallest_int z && le_z z largest_int) (Ok (Int z)) (Err NoFit) tt (inl refl)

float-late : (x : Ieee.Float) → Late (fit_float x)
unfolding fit_float
float-late x = if-late (finite x) (Ok (Float x)) (Err NoFit) tt (inl refl)

int-by-late : (f : ℤ → ℤ → ℤ) (x y : ℤ) → Late (int_by f x y)
unfolding int_by
int-by-late f x y = if-late (eq_z y (pos 0)) (Err ByZero) (fit_int (f x y)) (inr refl) (int-late (f x y))

float-div-late : (x y : Ieee.Float) → Late (float_div x y)
unfolding float_div
float-div-late x y = if-late (Ieee.eq y (Ieee.fin false 0 (pos 0))) (Err ByZero) (fit_float (Ieee.div Ieee.binary64 x y)) (inr refl) (float-late (Ieee.div Ieee.binary64 x y))

worked-late : (f : ℤ → ℤ → Answer) (g : Ieee.Float → Ieee.Float → Answer) → ((x y : ℤ) → Late (f x y)) → ((x y : Ieee.Float) → Late (g x y))
    → (t : Two) → Late (worked f g t)
unfolding worked
worked-late f g h k (Ints x y) = h x y
worked-late f g h k (Floats x y) = k x y
worked-late f g h k (Truths x y) = tt
worked-late f g h k OneEmpty = tt
worked-late f g h k Unlike = tt

compared-late : (f : ℤ → ℤ → Bool) (g : Ieee.Float → Ieee.Float → Bool) (h : Bool → Bool → Bool) (t : Two) → Late (compared f g h t)
unfolding compared
compared-late f g h (Ints x y) = tt
compared-late f g h (Floats x y) = tt
compared-late f g h (Truths x y) = tt
compared-late f g h OneEmpty = tt
compared-late f g h Unlike = tt

pub pair-late : (o : PairOp) (a b : Cell) → Late (pair_cell o a b)
unfolding applied
pair-late Add a b = worked-late _ _ (λ x y. int-late (x +ℤ y)) (λ x y. float-late (Ieee.add Ieee.binary64 x y)) (two a b)
pair-late Sub a b = worked-late _ _ (λ x y. int-late (x -ℤ y)) (λ x y. float-late (Ieee.sub Ieee.binary64 x y)) (two a b)
pair-late Mul a b = worked-late _ _ (λ x y. int-late (x *ℤ y)) (λ x y. float-late (Ieee.mul Ieee.binary64 x y)) (two a b)
pair-late Div a b = worked-late (int_by quot_z) float_div (int-by-late quot_z) float-div-late (two a b)
pair-late Mod a b = worked-late (int_by rem_z) (λ x y. Ok Empty) (int-by-late rem_z) (λ x y. tt) (two a b)
pair-late Eq a b = compared-late _ _ _ (two a b)
pair-late Ne a b = compared-late _ _ _ (two a b)
pair-late Lt a b = compared-late _ _ _ (two a b)
pair-late Le a b = compared-late _ _ _ (two a b)
pair-late Gt a b = compared-late _ _ _ (two a b)
pair-late Ge a b = compared-late _ _ _ (two a b)
pair-late And a b = tt
pair-late Or a b = tt

signed-late : (f : ℤ → ℤ) (g : Ieee.Float → Ieee.Float) (c : Cell) → Late (signed f g c)
unfolding signed
signed-late f g Empty = tt
signed-late f g (Int x) = int-late (f x)
signed-late f g (Float x) = tt
signed-late f g (Truth b) = tt

pub single-late : (o : SingleOp) (c : Cell) → Late (single_cell o c)
unfolding single_cell
single-late Negate c = signed-late _ _ c
single-late Absolute c = signed-late _ _ c
single-late Not c = tt
single-late IsEmpty c = tt
single-late IsTrue c = tt
single-late IsFalse c = tt
single-late IsUnknown c = tt

made-late : (w : Work) (a b c : Cell) → Late (made w a b c)
unfolding made
made-late (Pair o) a b c = pair-late o a b
made-late (Scalar Right o) a b c = pair-late o a c
made-late (Scalar Left o) a b c = pair-late o c a
made-late (Single o) a b c = single-late o a

pub cell-late : (o : Operation) (s : Step) (A B : Array) (p : List ℕ) → Late (cell_at o s A B p)
unfolding cell_at
cell-late (Moves m) s A B p = tt
cell-late (Works w) s A B p = made-late w (at A p) (at B p) (scalar s A)

abbrev AllLate : List Answer → Type 0
AllLate [] = Unit {0}
AllLate (a ∷ l) = Late a × AllLate l

map-late : (f : ℕ → Answer) → ((k : ℕ) → Late (f k)) → (l : List ℕ) → AllLate (map f l)
map-late f h [] = tt
map-late f h (k ∷ l) = (h k, map-late f h l)

answered-late : (a : Answer) (k o : ℕ) (r : Refusal) → Late a → answered k o a ≡ Err r → Either r.number
unfolding answered
answered-late (Ok c) k o r h e = absurd (none-refused c r e)
answered-late (Err f) k o r h e = let q : refusal (fault_no f) k o ≡ r = cc in subst (λ (x : Refusal). Either x.number) q h

settled-late : (l : List Answer) (k o : ℕ) (r : Refusal) → AllLate l → settled k o l ≡ Err r → Either r.number
unfolding settled
settled-late [] k o r h e = absurd (none-refused [] r e)
settled-late (a ∷ l) k o r h e = by (bind-refused (answered k o a) next r e) (λ d. settled-late l k (o + 1) r h.1 d)
  where
    next : Cell → Res (List Cell)
    next c = settled k (o + 1) l >>= (λ cs. Ok (c ∷ cs))

    also : (c : Cell) → (settled k (o + 1) l ≡ Err r) ⊎ ((cs : List Cell) × (Ok (c ∷ cs) ≡ Err r))
        → (settled k (o + 1) l ≡ Err r → Either r.number) → Either r.number
    also c (inl d) f = f d
    also c (inr d) f = absurd (none-refused (c ∷ d.0) r d.1)

    by : (answered k o a ≡ Err r) ⊎ ((c : Cell) × (next c ≡ Err r)) → (settled k (o + 1) l ≡ Err r → Either r.number)
        → Either r.number
    by (inl d) f = answered-late a k o r h.0 d
    by (inr d) f = also d.0 (bind-refused (settled k (o + 1) l) (λ cs. Ok (d.0 ∷ cs)) r d.1) f

whole : Shape → List Cell → Res Array
whole s cs = Ok (record { shape = s; cells = cs })

value-late : (k : ℕ) (arrays earlier : List Array) (p : Planned) (r : Refusal) → value_of k arrays earlier p ≡ Err r → Either r.number
unfolding value_of build whole
value-late k arrays earlier p r e = by (bind-refused (settled k 1 (build p.shape.axes g)) (whole p.shape) r e)
  where
    g : List ℕ → Answer
    g = cell_at p.step.operation p.step (operand_array arrays earlier p.step.a) (operand_array arrays earlier p.step.b)

    by : (settled k 1 (build p.shape.axes g) ≡ Err r) ⊎ ((cs : List Cell) × (whole p.shape cs ≡ Err r)) → Either r.number
    by (inl d) = settled-late _ k 1 r (map-late (λ j. g (at_offset p.shape.axes j)) (λ j. cell-late p.step.operation p.step _ _ (at_offset p.shape.axes j)) (from 0 (cells p.shape.axes))) d
    by (inr d) = absurd (none-refused _ r d.1)

pub values-late : (ps : List Planned) (k : ℕ) (arrays earlier : List Array) (r : Refusal) → values_from k arrays earlier ps ≡ Err r
    → Either r.number
unfolding values_from
values-late [] k arrays earlier r e = absurd (none-refused [] r e)
values-late (p ∷ ps) k arrays earlier r e = by (bind-refused (value_of k arrays earlier p) next r e) (λ A d. values-late ps (k + 1) arrays (earlier ++ (A ∷ [])) r d)
  where
    next : Array → Res (List Array)
    next A = values_from (k + 1) arrays (earlier ++ (A ∷ [])) ps >>= (λ As. Ok (A ∷ As))

    by : (value_of k arrays earlier p ≡ Err r) ⊎ ((A : Array) × (next A ≡ Err r))
        → ((A : Array) → values_from (k + 1) arrays (earlier ++ (A ∷ [])) ps ≡ Err r → Either r.number) → Either r.number
    by (inl d) f = value-late k arrays earlier p r d
    by (inr d) f = also (bind-refused (values_from (k + 1) arrays (earlier ++ (d.0 ∷ [])) ps) (λ As. Ok (d.0 ∷ As)) r d.1)
      where
        also : (values_from (k + 1) arrays (earlier ++ (d.0 ∷ [])) ps ≡ Err r) ⊎ ((As : List Array) × (Ok (d.0 ∷ As) ≡ Err r))
            → Either r.number
        also (inl x) = f d.0 x
        also (inr x) = absurd (none-refused (d.0 ∷ x.0) r x.1)
