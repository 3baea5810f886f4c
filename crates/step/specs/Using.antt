-- The paper's column "Uses" as four figures: operand B, the axis index, a scalar, and the byte from which on the detail is unused.
use Prim.Native.Nat.{ℕ, zero, suc, ◌+◌, ◌-◌, ◌*◌, ◌/◌, ◌≤◌}
use Rattle.std.specs.List.{list_all}
use Rattle.std.specs.Simd.{first_chunks}
use Rattle.std.specs.Prelude.{◌≡◌, refl, Bool, true, false, not, ◌&&◌, ◌||◌, List, [], ◌∷◌, ◌++◌, eqb, drop, if◌then◌else◌}
use Rattle.std.proofs.Math.Path.{sym}
use Rattle.std.proofs.Common.{ap, ◌∙◌, mul_comm, mul-le-mul_right, le_trans, le_of_eq, eqb-true, eq-eqb, ne_eqb, length-drop, length-take, length-take-le, take, take-add, take-append-drop, take_all}
use native.Mathlib.Omega.{arith}
use Rattle.std.proofs.lemmas.Bool.{eqb-false}
use Rattle.std.proofs.Math.ListN.{length}
use Rattle.paper.specs.declared.Sizes.{Sizes}
use Rattle.paper.specs.declared.Operation.{Operation}
use Rattle.paper.specs.declared.Operation.TheVariants.{Moves, Works}
use Rattle.paper.specs.declared.Move.TheVariants.{Trim, Slice, Reshape, Shift, Rename, Update, Put, Glue}
use Rattle.paper.specs.declared.Work.TheVariants.{Pair, Scalar, Single}
use Rattle.paper.specs.Limits.{pair_bytes, limit_bytes, word_bytes, scalar_at}
use Rattle.paper.specs.Refusals.{between}
use Rattle.paper.specs.Numbers.{le_of, part, zeros}
use Rattle.paper.specs.Recipe.{Step, uses, unused_zero, axis_in}
use Rattle.positions.specs.Runs.{part-part}
use Rattle.laws.specs.Sizes.{Fits}
use Rattle.laws.specs.Tests.{and_none, and-true}
use Rattle.extent.specs.Names.{zeros-append}
use Rattle.step.specs.declared.unused.Used.{Used}

abbrev pub used_as : Bool → Bool → Bool → ℕ → Used
used_as b axis scalar from = record { b = b; axis = axis; scalar = scalar; from = from }

-- what an operation uses, a name having w bytes and A n axes
unfoldable pub used_by : Operation → ℕ → ℕ → Used
used_by (Moves Trim) w n = used_as false false false (pair_bytes * n)
used_by (Moves Slice) w n = used_as false true false limit_bytes
used_by (Moves Reshape) w n = used_as false false false (pair_bytes * n)
used_by (Moves Shift) w n = used_as false false false (limit_bytes * n)
used_by (Moves Rename) w n = used_as false false false (w * n)
used_by (Moves Update) w n = used_as true false false 0
used_by (Moves Put) w n = used_as true true false limit_bytes
used_by (Moves Glue) w n = used_as true true false 0
used_by (Works (Pair o)) w n = used_as true false false 1
used_by (Works (Scalar h o)) w n = used_as false false true (scalar_at + word_bytes)
used_by (Works (Single o)) w n = used_as false false false 1

-- the bytes of the detail that are not used
abbrev pub unused_of : Used → List ℕ → List ℕ
unused_of u d = (if u.scalar then part 1 (scalar_at - 1) d else []) ++ drop u.from d

-- a step's bytes that are not used are zero
abbrev pub unused_tested : Used → Step → Bool
unused_tested u st = (u.b || eqb st.b 0) && ((u.axis || eqb st.axis 0) && zeros (unused_of u st.detail))

-- the four figures are the paper's column, and the detail has the bytes used
pub record Column (op : Operation) (z : Sizes) (n : ℕ) (u : Used) : Type 0 where
  pub b : (uses op).b ≡ u.b
  pub axis : (uses op).axis ≡ u.axis
  pub unused : (d : List ℕ) → (uses op).unused z.name n d ≡ unused_of u d
  pub few : n ≤ z.axes → u.from ≤ z.detail

pairs : (z : Sizes) → Fits z → (n : ℕ) → n ≤ z.axes → pair_bytes * n ≤ z.detail
pairs z f n h = omega (arith, f.pairs, h)

pub column : (op : Operation) (z : Sizes) (n : ℕ) → Fits z → Column op z n (used_by op z.name n)
unfolding uses used_by
column (Moves Trim) z n f = record { b = refl; axis = refl; unused = λ d. refl; few = λ h. pairs z f n h }
column (Moves Slice) z n f = record { b = refl; axis = refl; unused = λ d. refl; few = λ h. omega (arith, f.scalar) }
column (Moves Reshape) z n f = record { b = refl; axis = refl; unused = λ d. refl; few = λ h. pairs z f n h }
column (Moves Shift) z n f = record { b = refl; axis = refl; unused = λ d. refl; few = λ h. omega (arith, pairs z f n h) }
column (Moves Rename) z n f = record {
  b = refl;
  axis = refl;
  unused = λ d. refl;
  few = λ h. le_trans (le_of_eq (mul_comm z.name n)) (le_trans (mul-le-mul_right z.name h) f.names);
}
column (Moves Update) z n f = record { b = refl; axis = refl; unused = λ d. refl; few = λ h. omega (arith, f.scalar) }
column (Moves Put) z n f = record { b = refl; axis = refl; unused = λ d. refl; few = λ h. omega (arith, f.scalar) }
column (Moves Glue) z n f = record { b = refl; axis = refl; unused = λ d. refl; few = λ h. omega (arith, f.scalar) }
column (Works (Pair o)) z n f = record { b = refl; axis = refl; unused = λ d. refl; few = λ h. omega (arith, f.scalar) }
column (Works (Scalar h o)) z n f = record { b = refl; axis = refl; unused = λ d. refl; few = λ h. omega (arith, f.scalar) }
column (Works (Single o)) z n f = record { b = refl; axis = refl; unused = λ d. refl; few = λ h. omega (arith, f.scalar) }

-- the paper's tests by them
module _ (op : Operation) (z : Sizes) (n : ℕ) (u : Used) (c : Column op z n u) where
  pub axis-by : (k : ℕ) → (not u.axis || between 1 n k) ≡ axis_in (uses op) n k
  axis-by k = rw c.axis

  pub unused-by : (st : Step) → unused_tested u st ≡ unused_zero (uses op) z.name n st
  unfolding unused_zero
  unused-by st = rw (c.b, c.axis, c.unused st.detail)

-- ---- zeros in a row

-- a number is 0 where its bytes are
zeros-number : (bs : List ℕ) → zeros bs ≡ eqb (le_of bs) 0
unfolding zeros
zeros-number [] = refl
zeros-number (b ∷ bs) = rw (zeros-number bs) (by (eqb b 0) (eqb (le_of bs) 0) refl refl)
  where
    by : (x y : Bool) → eqb b 0 ≡ x → eqb (le_of bs) 0 ≡ y → (x && y) ≡ eqb (b + 256 * le_of bs) 0
    by true true p q = let m = eqb-true b 0 p in let n = eqb-true (le_of bs) 0 q in sym (eq-eqb (b + 256 * le_of bs) 0 (omega arith))
    by true false p q = let n = eqb-false (le_of bs) 0 q in sym (ne_eqb (b + 256 * le_of bs) 0 (λ z. n (omega arith)))
    by false y p q = let m = eqb-false b 0 p in sym (ne_eqb (b + 256 * le_of bs) 0 (λ z. m (omega arith)))

-- one byte after the other
pub zeros-each : (bs : List ℕ) → zeros bs ≡ list_all (λ b. eqb b 0) bs
unfolding zeros
zeros-each [] = refl
zeros-each (b ∷ bs) = rw (zeros-each bs)

-- the first k words
zeros-first : (k : ℕ) (bs : List ℕ) → k * word_bytes ≤ length bs
    → zeros (take (k * word_bytes) bs) ≡ list_all (λ w. eqb (le_of (part 0 word_bytes w)) 0) (first_chunks word_bytes k bs)
unfolding zeros
zeros-first zero bs h = refl
zeros-first (suc k) bs h =
    let e : suc k * word_bytes ≡ word_bytes + k * word_bytes = omega arith in
    let t : take word_bytes (take word_bytes bs) ≡ take word_bytes bs = take_all word_bytes (take word_bytes bs) (omega (arith, length-take-le word_bytes bs (omega arith))) in
    let n : k * word_bytes ≤ length (drop word_bytes bs) = omega (arith, length-drop word_bytes bs) in
    rw (e, take-add word_bytes (k * word_bytes) bs, zeros-append (take word_bytes bs) _, zeros-number (take word_bytes bs), t, zeros-first k (drop word_bytes bs) n)

-- as many whole words as there are, and the bytes after them
pub zeros-words : (bs : List ℕ)
    → zeros bs ≡ (list_all (λ w. eqb (le_of (part 0 word_bytes w)) 0) (first_chunks word_bytes (length bs / word_bytes) bs) && zeros (drop (length bs / word_bytes * word_bytes) bs))
zeros-words bs =
    let k = length bs / word_bytes in
    ap zeros (sym (take-append-drop (k * word_bytes) bs)) ∙ zeros-append (take (k * word_bytes) bs) _
    ∙ rw (zeros-first k bs (omega arith))

-- ---- the bytes of the detail at `at` that are not used

module _ (u : Used) (s : List ℕ) (at detail : ℕ) (few : u.from ≤ detail) (scalar : scalar_at ≤ detail) where
  abbrev d : List ℕ
  d = part at detail s

  rest-there : part (at + u.from) (at + detail - (at + u.from)) s ≡ drop u.from d
  rest-there =
      let f = u.from in
      let e : at + detail - (at + f) ≡ detail - f = omega arith in
      let l : length (drop f d) ≤ detail - f = omega (arith, length-drop f d, length-take detail (drop at s)) in
      ap (λ (k : ℕ). part (at + f) k s) e ∙ sym (part-part s at detail f (detail - f) (omega arith)) ∙ take_all (detail - f) (drop f d) l

  middle-there : part (at + 1) (at + scalar_at - (at + 1)) s ≡ part 1 (scalar_at - 1) d
  middle-there =
      let e : at + scalar_at - (at + 1) ≡ scalar_at - 1 = omega arith in
      ap (λ (k : ℕ). part (at + 1) k s) e ∙ sym (part-part s at detail 1 (scalar_at - 1) (omega arith))

  parted : zeros (unused_of u d) ≡ (zeros (if u.scalar then part 1 (scalar_at - 1) d else []) && zeros
      (part (at + u.from) (at + detail - (at + u.from)) s))
  parted = zeros-append (if u.scalar then part 1 (scalar_at - 1) d else []) (drop u.from d) ∙ rw rest-there

  pub rest-used : zeros (part (at + u.from) (at + detail - (at + u.from)) s) ≡ false → false ≡ zeros (unused_of u d)
  rest-used e = sym (parted ∙ rw e (and_none (zeros (if u.scalar then part 1 (scalar_at - 1) d else []))))

  module _ (y : zeros (part (at + u.from) (at + detail - (at + u.from)) s) ≡ true) where
    pub no-scalar : u.scalar ≡ false → true ≡ zeros (unused_of u d)
    unfolding zeros
    no-scalar e = sym (parted ∙ rw (y, e))

    pub by_scalar : u.scalar ≡ true → zeros (part (at + 1) (at + scalar_at - (at + 1)) s) ≡ zeros (unused_of u d)
    by_scalar e = sym (parted ∙ rw (y, e) (and-true (zeros (part 1 (scalar_at - 1) d)) ∙ sym (ap zeros middle-there)))
