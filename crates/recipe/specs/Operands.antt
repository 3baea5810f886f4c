-- What stands under an operand's number, in the paper's terms: one of the bundle's arrays, the result of a step, or nothing.
use Prim.Native.Nat.{ℕ, zero, suc, ◌+◌, ◌-◌, ◌≤◌, ◌<◌}
use Rattle.std.specs.Prelude.{◌≡◌, Bool, List, [], ◌∷◌, ◌++◌, map, eqb, length, get_or, set, replicate, if◌then◌else◌, Option, None, Some}
use Rattle.std.specs.Option.{option_map}
use Rattle.std.proofs.Math.Path.{refl, ap}
use Rattle.std.proofs.Common.{sym, subst, ◌∙◌, length-set, get_or-set_same, get_or-set_other}
use Rattle.std.proofs.Math.Bool.{true, false}
use native.Mathlib.Omega.{arith}
use borrow.Author.Tests.{le-leb, lt-leb, leb-true, leb-false, eqb-true, eqb-false}
use Rattle.std.proofs.Math.Dec.{leb}
use Rattle.std.proofs.lemmas.List.{length-replicate}
use Rattle.paper.specs.declared.Head.{Head}
use Rattle.paper.specs.Limits.{most_arrays, most_steps, steps_from}
use Rattle.paper.specs.Numbers.{nth}
use Rattle.paper.specs.Axes.{cells, Shape}
use Rattle.paper.specs.Recipe.{operand, no_shape}
use Rattle.paper.specs.Answers.{axes_of, shape_of}
use Rattle.laws.specs.Answers.{no_head, extent-axes, form-shape}
use Rattle.laws.specs.Lists.{nth-mapped, nth_last, nth-others}
use Rattle.extent.specs.Judged.{Small}
use Rattle.quick.specs.Operands.{bundle_side, work_side}
use Rattle.recipe.specs.declared.Operand.{Operand}

-- ---- an operand

-- no array; it counts as found where a step uses no B
abbrev pub no_operand : Bool → Operand
no_operand b = record { found = b; which = bundle_side; head = no_head }

-- an array in the bundle or in the work area
abbrev pub placed : ℕ → Head → Operand
placed w h = record { found = true; which = w; head = h }

-- the bundle's arrays have numbers up to 16, results from 17 on
abbrev pub side_of : ℕ → ℕ
side_of n = if leb n steps_from then bundle_side else work_side

-- what is found under number n
abbrev pub under : ℕ → Option Head → Operand
under n None = no_operand false
under n (Some h) = placed (side_of n) h

abbrev pub shape_in : Head → Shape
shape_in h = shape_of h.form

-- its shape
abbrev pub found_shape : Operand → Option Shape
found_shape o = if o.found then Some (shape_in o.head) else None

under-shape : (n : ℕ) (o : Option Head) → found_shape (under n o) ≡ option_map shape_in o
under-shape n None = refl
under-shape n (Some h) = refl

pub no-shape : shape_in no_head ≡ no_shape
no-shape = form-shape no_shape refl (omega arith) (omega arith)

pub small-none : Small (axes_of no_head.form.extent)
unfolding cells
small-none = subst Small (sym (extent-axes [] (omega arith))) (record { sound = tt; few = omega arith })

-- ---- operands over lists

operand-map : {A C : Type 0} (f : A → C) (xs ys : List A) (n : ℕ) → operand (map f xs) (map f ys) n ≡ option_map f (operand xs ys n)
unfolding operand
operand-map f xs ys n = by (leb n steps_from)
  where
    by : (b : Bool) → (if b then nth (map f xs) n else nth (map f ys) (n - steps_from))
        ≡ option_map f (if b then nth xs n else nth ys (n - steps_from))
    by true = nth-mapped f xs n
    by false = nth-mapped f ys (n - steps_from)

-- one array more
module _ {A : Type 0} (xs ys : List A) (x : A) where
  array-last : length xs < steps_from → operand (xs ++ (x ∷ [])) ys (suc (length xs)) ≡ Some x
  unfolding operand
  array-last h = rw (le-leb (suc (length xs)) steps_from (omega arith)) (nth_last xs x)

  array-others : (n : ℕ) → (n ≡ suc (length xs) → ⊥) → operand (xs ++ (x ∷ [])) ys n ≡ operand xs ys n
  unfolding operand
  array-others n h = ap (λ (o : Option A). if leb n steps_from then o else nth ys (n - steps_from)) (nth-others xs x n h)

-- one result more
module _ {A : Type 0} (xs ys : List A) (y : A) where
  result-last : operand xs (ys ++ (y ∷ [])) (steps_from + suc (length ys)) ≡ Some y
  unfolding operand
  result-last =
      let e : steps_from + suc (length ys) - steps_from ≡ suc (length ys) = omega arith in
      rw (lt-leb (steps_from + suc (length ys)) steps_from (omega arith), e) (nth_last ys y)

  result-others : (n : ℕ) → (n ≡ steps_from + suc (length ys) → ⊥) → operand xs (ys ++ (y ∷ [])) n ≡ operand xs ys n
  unfolding operand
  result-others n h = by (leb n steps_from) refl
    where
      by : (b : Bool) → leb n steps_from ≡ b → (if b then nth xs n else nth (ys ++ (y ∷ [])) (n - steps_from))
          ≡ (if b then nth xs n else nth ys (n - steps_from))
      by true e = refl
      by false e = nth-others ys y (n - steps_from) (λ q. let l = leb-false n steps_from e in h (omega arith))

-- ---- where it is kept

-- nothing at 0, then the bundle's arrays, then the results; every number that can name none of these is kept at 0
abbrev pub slot_of : ℕ → ℕ
slot_of n = if leb n most_arrays then n else (if leb n steps_from then 0 else
    (if leb n (steps_from + most_steps) then most_arrays + (n - steps_from) else 0))

-- the number that is kept there
abbrev number_at : ℕ → ℕ
number_at i = if leb i most_arrays then i else steps_from + (i - most_arrays)

slot-back : (n : ℕ) → (slot_of n ≡ 0 → ⊥) → number_at (slot_of n) ≡ n
slot-back n = by (leb n most_arrays) (leb n steps_from) (leb n (steps_from + most_steps)) refl refl
  where
    by : (a b c : Bool) → leb n most_arrays ≡ a → leb n steps_from ≡ b
        → ((if a then n else (if b then 0 else (if c then most_arrays + (n - steps_from) else 0))) ≡ 0 → ⊥)
        → number_at (if a then n else (if b then 0 else (if c then most_arrays + (n - steps_from) else 0))) ≡ n
    by true b c e f h = rw e
    by false true c e f h = absurd (h refl)
    by false false true e f h =
        let l = leb-false n steps_from f in
        rw (lt-leb (most_arrays + (n - steps_from)) most_arrays (omega arith)) (omega arith)
    by false false false e f h = absurd (h refl)

slot_apart : (n k : ℕ) → (slot_of k ≡ 0 → ⊥) → (n ≡ k → ⊥) → slot_of n ≡ slot_of k → ⊥
slot_apart n k h q e = q (sym (slot-back n (λ z. h (sym e ∙ z))) ∙ ap number_at e ∙ slot-back k h)

pub slot-few : (n : ℕ) → slot_of n ≤ most_arrays + most_steps
slot-few n = by (leb n most_arrays) (leb n steps_from) (leb n (steps_from + most_steps)) refl refl
  where
    by : (a b c : Bool) → leb n most_arrays ≡ a → leb n (steps_from + most_steps) ≡ c
        → (if a then n else (if b then 0 else (if c then most_arrays + (n - steps_from) else 0))) ≤ most_arrays + most_steps
    by true b c e g = let l = leb-true n most_arrays e in omega arith
    by false true c e g = omega arith
    by false false true e g = let l = leb-true n (steps_from + most_steps) g in omega arith
    by false false false e g = omega arith

-- an array's and a result's
slot-array : (n : ℕ) → n ≤ most_arrays → slot_of n ≡ n
slot-array n h = rw (le-leb n most_arrays h)

slot-result : (j : ℕ) → 1 ≤ j → j ≤ most_steps → slot_of (steps_from + j) ≡ most_arrays + j
slot-result j h l =
    rw (
      lt-leb (steps_from + j) most_arrays (omega arith),
      lt-leb (steps_from + j) steps_from (omega arith),
      le-leb (steps_from + j) (steps_from + most_steps) (omega arith),
    )
    (omega arith)

-- what is kept for each number, over these arrays and results
pub record Named (arrays results : List Head) (l : List Operand) : Type 0 where
  pub long : length l ≡ suc (most_arrays + most_steps)
  pub at : (n : ℕ) → get_or l (slot_of n) (no_operand false) ≡ under n (operand arrays results n)

pub get_or-same : {A : Type 0} (m n : ℕ) (d : A) → get_or (replicate m d) n d ≡ d
get_or-same zero n d = refl
get_or-same (suc m) zero d = refl
get_or-same (suc m) (suc n) d = get_or-same m n d

nth-none : {A : Type 0} (n : ℕ) → nth {A = A} [] n ≡ None
nth-none zero = refl
nth-none (suc n) = refl

-- nothing yet
pub none_named : Named [] [] (replicate (suc (most_arrays + most_steps)) (no_operand false))
unfolding operand
none_named = record {
  long = length-replicate (suc (most_arrays + most_steps)) (no_operand false);
  at = λ n. get_or-same (suc (most_arrays + most_steps)) (slot_of n) (no_operand false) ∙ ap (under n) (by n (leb n steps_from));
}
  where
    by : (n : ℕ) (b : Bool) → None ≡ (if b then nth {A = Head} [] n else nth {A = Head} [] (n - steps_from))
    by n true = sym (nth-none n)
    by n false = sym (nth-none (n - steps_from))

module _ (arrays results : List Head) (l : List Operand) (v : Named arrays results l) where
  pub named-shape : (n : ℕ) → operand (map shape_in arrays) (map shape_in results) n ≡ found_shape (get_or l (slot_of n) (no_operand false))
  named-shape n = operand-map shape_in arrays results n ∙ sym (under-shape n (operand arrays results n)) ∙ sym (ap found_shape (v.at n))

  -- one number changed
  set-named : (As Rs : List Head) (k : ℕ) (h : Head) → (slot_of k ≡ 0 → ⊥) → operand As Rs k ≡ Some h
      → ((n : ℕ) → (n ≡ k → ⊥) → operand As Rs n ≡ operand arrays results n) → Named As Rs (set l (slot_of k) (placed (side_of k) h))
  set-named As Rs k h b e q =
      record { long = length-set l (slot_of k) (placed (side_of k) h) ∙ v.long; at = λ n. by n (eqb n k) refl }
    where
      by : (n : ℕ) (t : Bool) → eqb n k ≡ t
          → get_or (set l (slot_of k) (placed (side_of k) h)) (slot_of n) (no_operand false) ≡ under n (operand As Rs n)
      by n true i =
          let j = eqb-true n k i in
          subst (λ (m : ℕ). get_or (set l (slot_of k) (placed (side_of k) h)) (slot_of m) (no_operand false) ≡ under m (operand As Rs m)) (sym j)
          (get_or-set_same l (slot_of k) (placed (side_of k) h) (no_operand false) (omega (arith, v.long, slot-few k)) ∙ sym (ap (under k) e))
      by n false i =
          let j = eqb-false n k i in
          get_or-set_other l (slot_of k) (slot_of n) (placed (side_of k) h) (no_operand false) (slot_apart n k b j) ∙ v.at n
          ∙ sym (ap (under n) (q n j))

  pub array-more : (h : Head) → length arrays < most_arrays
      → Named (arrays ++ (h ∷ [])) results (set l (suc (length arrays)) (placed bundle_side h))
  array-more h b =
      let k = suc (length arrays) in
      let e : side_of k ≡ bundle_side = rw (le-leb k steps_from (omega arith)) in
      let i = slot-array k (omega arith) in
      subst (λ (w : ℕ). Named (arrays ++ (h ∷ [])) results (set l k (placed w h))) e
      (subst (λ (j : ℕ). Named (arrays ++ (h ∷ [])) results (set l j (placed (side_of k) h))) i
      (set-named (arrays ++ (h ∷ [])) results k h (λ z. omega (arith, sym i ∙ z)) (array-last arrays results h (omega arith))
      (array-others arrays results h)))

  pub result-more : (h : Head) → length results < most_steps
      → Named arrays (results ++ (h ∷ [])) (set l (most_arrays + suc (length results)) (placed work_side h))
  result-more h b =
      let k = steps_from + suc (length results) in
      let e : side_of k ≡ work_side = rw (lt-leb k steps_from (omega arith)) in
      let i = slot-result (suc (length results)) (omega arith) (omega arith) in
      subst (λ (w : ℕ). Named arrays (results ++ (h ∷ [])) (set l (most_arrays + suc (length results)) (placed w h))) e
      (subst (λ (j : ℕ). Named arrays (results ++ (h ∷ [])) (set l j (placed (side_of k) h))) i
      (set-named arrays (results ++ (h ∷ [])) k h (λ z. omega (arith, sym i ∙ z)) (result-last arrays results h)
      (result-others arrays results h)))
