-- Bytes cut into pieces of one size: how many there are, and a loop that puts what each of them tells into an array, one after the
-- other. Then what the bytes of a walking place and a total's number come to, each way out of the code by its tests.
use Prim.Native.Nat.{ℕ, zero, suc, ◌+◌, ◌-◌, ◌*◌, ◌/◌, ◌%◌, ◌≤◌, ◌<◌}
use Rattle.std.specs.Prelude.{◌≡◌, Bool, true, false, ◌&&◌, eqb, leb, take, drop, set, if◌then◌else◌, Some, Ok, Err}
use Rattle.std.proofs.Math.Path.{refl}
use Rattle.std.proofs.Common.{ap, ◌∙◌, div-mul-le_self, le_of_mul-le-mul_right, le_trans, add-one, eq-eqb, ne_eqb, le-leb, leb-true}
use mathlib.Core.List.{List, [], ◌∷◌, ◌++◌, append_assoc, append-nil}
use native.Mathlib.Omega.{arith}
use Rattle.std.proofs.lemmas.Bool.{lt-leb}
use Rattle.std.proofs.Math.ListN.{length, length-set}
use Rattle.std.proofs.Math.Seq.{drop-drop, take-suc-set}
use Rattle.paper.specs.declared.Refusal.{Refusal}
use Rattle.paper.specs.declared.Total.{Total}
use Rattle.paper.specs.declared.Totalled.{Totalled}
use Rattle.paper.specs.Limits.{limit_bytes}
use Rattle.paper.specs.Refusals.{Res, refusal, unknown4}
use Rattle.paper.specs.Numbers.{le_of, le_bytes, part, nth}
use Rattle.paper.specs.Axes.{Array}
use Rattle.paper.specs.Reference.{chosen}
use Rattle.paper.specs.Totals.{totals}
use Rattle.laws.specs.Lists.{nth_past}
use Rattle.c_asked.specs.Asked.{pieces, each_piece, all_totals, place_in, place_after, no_total, total_asked}

-- ---- how many

module _ (most size n : ℕ) where
  pub pieces-broken : (n % size ≡ 0 → ⊥) → 0 ≡ pieces most size n
  pieces-broken h = rw (ne_eqb (n % size) 0 h)

  pub pieces-over : n % size ≡ 0 → most * size < n → 0 ≡ pieces most size n
  pieces-over w h = rw (eq-eqb (n % size) 0 w, lt-leb n (most * size) h)

  pub pieces_whole : n % size ≡ 0 → n ≤ most * size → n / size ≡ pieces most size n
  pieces_whole w h = rw (eq-eqb (n % size) 0 w, le-leb n (most * size) h)

  -- no more than there may be, and no more bytes than there are
  by : 0 < size → (a b : Bool) → leb n (most * size) ≡ b
      → let m : ℕ = if a && b then n / size else 0 in (m ≤ most) × (m * size ≤ n)
  by p false b e = (omega arith, omega arith)
  by p true false e = (omega arith, omega arith)
  by p true true e =
      let f : n / size * size ≤ n = div-mul-le_self n size in
      (le_of_mul-le-mul_right (le_trans f (leb-true n (most * size) e)) p, f)

  pub pieces-few : 0 < size → (pieces most size n ≤ most) × (pieces most size n * size ≤ n)
  pieces-few p = by p (eqb (n % size) 0) (leb n (most * size)) refl

-- ---- one piece after the other

pub each-length : {A : Type 0} (one : List ℕ → A) (size n : ℕ) (bs : List ℕ) → length (each_piece one size n bs) ≡ n
unfolding each_piece
each-length one size zero bs = refl
each-length one size (suc n) bs = ap suc (each-length one size n (drop size bs))

-- what the pieces passed tell and what those to come tell is what all of them tell
pub record Filling {A : Type 0} (one : List ℕ → A) (size : ℕ) (s : List ℕ) (most n i : ℕ) (l : List A) : Type 0 where
  pub turns : i ≤ n
  pub few : n ≤ most
  pub room : n * size ≤ length s
  pub long : length l ≡ most
  pub all : take i l ++ each_piece one size (n - i) (drop (i * size) s) ≡ each_piece one size n s

module _ {A : Type 0} {one : List ℕ → A} {size : ℕ} {s : List ℕ} {most n : ℕ} where
  pub filling-starts : {l : List A} → 0 < size → n ≡ pieces most size (length s) → length l ≡ most → Filling one size s most n 0 l
  filling-starts p e h =
      let b = pieces-few most size (length s) p in
      let z : n - 0 ≡ n = omega arith in
      let g : 0 * size ≡ 0 = omega arith in
      record { turns = omega arith; few = rw e b.0; room = rw e b.1; long = h; all = rw (z, g) }

  pub filling-more : {i : ℕ} {l : List A} {a : A} → i < n → a ≡ one (drop (i * size) s) → Filling one size s most n i l
      → Filling one size s most n (i + 1) (set l i a)
  unfolding each_piece
  filling-more {i} {l} {a} h e v =
      let p : n - i ≡ suc (n - suc i) = omega arith in
      let q : suc i * size ≡ i * size + size = omega arith in
      let w : i < length l = omega (arith, v.long, v.few) in
      record {
        turns = omega arith;
        few = v.few;
        room = v.room;
        long = length-set l i a ∙ v.long;
        all =
            rw (add-one i, q, ← drop-drop size (i * size) s, take-suc-set l i a w, append_assoc (take i l) (a ∷ []), e) (rw p at v.all);
      }

  pub filling-ends : {i : ℕ} {l : List A} → n ≤ i → Filling one size s most n i l → take n l ≡ each_piece one size n s
  unfolding each_piece
  filling-ends {i} h v =
      let p : i ≡ n = omega (arith, v.turns) in
      let z : n - n ≡ 0 = omega arith in
      rw (p, z, append-nil) at v.all

-- ---- a walking place

module _ (bs : List ℕ) where
  pub place_short : length bs < limit_bytes → 0 ≡ place_in bs
  place_short h = rw (lt-leb limit_bytes (length bs) h)

  pub place-long : limit_bytes ≤ length bs → le_of (part 0 limit_bytes bs) ≡ place_in bs
  place-long h = rw (le-leb limit_bytes (length bs) h)

  pub place_kept : (o : ℕ) → length bs < limit_bytes → bs ≡ place_after o bs
  place_kept o h = rw (lt-leb limit_bytes (length bs) h)

  pub place-moved : (o : ℕ) → limit_bytes ≤ length bs → take 0 bs ++ le_bytes limit_bytes o ++ drop (0 + limit_bytes) bs ≡ place_after o bs
  unfolding le_bytes
  place-moved o h = rw (le-leb limit_bytes (length bs) h)

-- ---- a total's number

module _ (bs : List ℕ) (k : ℕ) where
  -- the array's own refusal
  pub no-total-refused : {x : Refusal} → Err x ≡ chosen bs k → Err x ≡ no_total bs k
  unfolding no_total
  no-total-refused e = rw (← e) refl

  pub no-total-known : {A : Array} → Ok A ≡ chosen bs k → Err (refusal unknown4 k 0) ≡ no_total bs k
  unfolding no_total
  no-total-known e = rw (← e) refl

  -- an answer that is a total's is what its number asks for
  pub total-at : {which n : ℕ} {t : Total} {r : Res Totalled} → r ≡ totals bs k t → which ≡ n → nth all_totals n ≡ Some t
      → r ≡ total_asked bs k which
  unfolding total_asked
  total-at e q h = rw (q, h, total_asked) e

  -- the six numbers are those of the six totals
  pub total-none : (which : ℕ) → (which ≡ 1 → ⊥) → (which ≡ 2 → ⊥) → (which ≡ 3 → ⊥) → (which ≡ 4 → ⊥) → (which ≡ 5 → ⊥)
      → (which ≡ 6 → ⊥) → no_total bs k ≡ total_asked bs k which
  unfolding total_asked
  total-none zero a b c d e f = refl
  total-none (suc n) a b c d e f = rw (nth_past all_totals (suc n) (omega arith), total_asked)
