-- Cells judged one after the other: the first that is none, and what the paper's reading of them then is. A loop that judges cells
-- carries a number; what reads them later cites the cell at an index, and that it is one.
use Prim.Native.Nat.{ℕ, zero, suc, ◌+◌, ◌-◌, ◌*◌, ◌≤◌, ◌<◌}
use Rattle.std.specs.Prelude.{◌≡◌, refl, Bool, true, false, List, [], ◌∷◌, eqb, length, get_or, take, drop, if◌then◌else◌, Option, None, Some, Ok, Err, is_some}
use Rattle.std.specs.Option.{unwrap_or}
use Rattle.std.proofs.Common.{sym, ap, ◌∙◌, ne_eqb}
use native.Mathlib.Omega.{arith}
use Rattle.std.proofs.Math.Seq.{drop-drop}
use Rattle.paper.specs.declared.Cell.{Cell}
use Rattle.paper.specs.declared.Cell.TheVariants.{Empty}
use Rattle.paper.specs.declared.Refusal.{Refusal}
use Rattle.paper.specs.Refusals.{Res, ◌>>=◌, refusal, present, bad_cell3}
use Rattle.paper.specs.Cells.{cell_of}
use Rattle.paper.specs.Bundle.{cells_of}
use Rattle.paper.specs.Limits.{cell_bytes}

-- the ordinality of the first of n cells that is none, the first of them at o; 0 where each is one
unfoldable pub first_bad : ℕ → ℕ → ℕ → List ℕ → ℕ
first_bad t o zero bs = 0
first_bad t o (suc n) bs = if is_some (cell_of t (take cell_bytes bs)) then first_bad t (o + 1) n (drop cell_bytes bs) else o

-- the cell, or an empty one
abbrev pub or_empty : Option Cell → Cell
or_empty c = unwrap_or c Empty

-- n cells, each judged already
unfoldable pub cells_from : ℕ → ℕ → List ℕ → List Cell
cells_from t zero bs = []
cells_from t (suc n) bs = or_empty (cell_of t (take cell_bytes bs)) ∷ cells_from t n (drop cell_bytes bs)

-- the paper's reading of cells, by the first that is none
abbrev pub judged : ℕ → ℕ → List Cell → Res (List Cell)
judged k o cs = if eqb o 0 then Ok cs else Err (refusal bad_cell3 k o)

onwards : (b : Bool) (c : Cell) (cs : List Cell) (r : Refusal)
    → ((if b then Ok cs else Err r) >>= (λ ds. Ok (c ∷ ds))) ≡ (if b then Ok (c ∷ cs) else Err r)
onwards true c cs r = refl
onwards false c cs r = refl

pub cells-judged : (n k t o : ℕ) (bs : List ℕ) → 0 < o → cells_of k t o n bs ≡ judged k (first_bad t o n bs) (cells_from t n bs)
unfolding cells_of first_bad cells_from
cells-judged zero k t o bs h = refl
cells-judged (suc n) k t o bs h = by (cells-judged n k t (o + 1) (drop cell_bytes bs) (omega arith)) (cell_of t (take cell_bytes bs))
  where
    by : cells_of k t (o + 1) n (drop cell_bytes bs) ≡ judged k (first_bad t (o + 1) n (drop cell_bytes bs)) (cells_from t n (drop cell_bytes bs))
        → (c : Option Cell)
        → (present c (refusal bad_cell3 k o) >>= (λ c. cells_of k t (o + 1) n (drop cell_bytes bs) >>= (λ cs. Ok (c ∷ cs))))
        ≡ judged k (if is_some c then first_bad t (o + 1) n (drop cell_bytes bs) else o) (or_empty c ∷ cells_from t n (drop cell_bytes bs))
    by q None = let f : eqb o 0 ≡ false = ne_eqb o 0 (λ e. omega arith) in rw f
    by q (Some c) =
        ap (λ (m : Res (List Cell)). m >>= (λ cs. Ok (c ∷ cs))) q
        ∙ onwards (eqb (first_bad t (o + 1) n (drop cell_bytes bs)) 0) c _ _

-- ---- the loop, in remaining form

module _ (s : List ℕ) (at t n i : ℕ) (h : i < n) where
  bad-turn : first_bad t (i + 1) (n - i) (drop (at + i * cell_bytes) s)
      ≡ (if is_some (cell_of t (take cell_bytes (drop (at + i * cell_bytes) s))) then first_bad t (i + 1 + 1) (n - (i + 1)) (drop (at + (i + 1) * cell_bytes) s) else i + 1)
  unfolding first_bad
  bad-turn =
      let e : n - i ≡ suc (n - (i + 1)) = omega arith in
      let f : at + (i + 1) * cell_bytes ≡ at + i * cell_bytes + cell_bytes = omega arith in
      rw (e, f, ← drop-drop cell_bytes (at + i * cell_bytes) s)

  pub bad_more : is_some (cell_of t (take cell_bytes (drop (at + i * cell_bytes) s))) ≡ true
      → first_bad t (i + 1 + 1) (n - (i + 1)) (drop (at + (i + 1) * cell_bytes) s) ≡ first_bad t (i + 1) (n - i) (drop (at + i * cell_bytes) s)
  bad_more e = sym (bad-turn ∙ rw e)

  pub bad-here : is_some (cell_of t (take cell_bytes (drop (at + i * cell_bytes) s))) ≡ false
      → i + 1 ≡ first_bad t (i + 1) (n - i) (drop (at + i * cell_bytes) s)
  bad-here e = sym (bad-turn ∙ rw e)

pub bad-none : (s : List ℕ) (at t n i : ℕ) → n ≤ i → 0 ≡ first_bad t (i + 1) (n - i) (drop (at + i * cell_bytes) s)
unfolding first_bad
bad-none s at t n i h = let e : n - i ≡ 0 = omega arith in rw e

pub bad-start : (s : List ℕ) (at t n : ℕ) → first_bad t (0 + 1) (n - 0) (drop (at + 0 * cell_bytes) s) ≡ first_bad t 1 n (drop at s)
bad-start s at t n =
    let e : n - 0 ≡ n = omega arith in
    let f : at + 0 * cell_bytes ≡ at = omega arith in
    rw (e, f)

-- ---- what later code reads: how many, cell i, and that it is one

pub length-cells : (t n : ℕ) (bs : List ℕ) → length (cells_from t n bs) ≡ n
unfolding cells_from
length-cells t zero bs = refl
length-cells t (suc n) bs = ap suc (length-cells t n (drop cell_bytes bs))

pub cell-no : (n t i : ℕ) (bs : List ℕ) → i < n → get_or (cells_from t n bs) i Empty
    ≡ or_empty (cell_of t (take cell_bytes (drop (i * cell_bytes) bs)))
unfolding cells_from
cell-no zero t i bs h = absurd (omega arith)
cell-no (suc n) t zero bs h = refl
cell-no (suc n) t (suc i) bs h =
    let e : suc i * cell_bytes ≡ cell_bytes + i * cell_bytes = omega arith in
    cell-no n t i (drop cell_bytes bs) (omega arith) ∙ ap (λ (l : List ℕ). or_empty (cell_of t (take cell_bytes l))) (drop-drop (i * cell_bytes) cell_bytes bs) ∙ ap (λ (j : ℕ). or_empty (cell_of t (take cell_bytes (drop j bs)))) (sym e)

judged-first : (b : Bool) (x o : ℕ) → 0 < o → (if b then x else o) ≡ 0 → (b ≡ true) × (x ≡ 0)
judged-first true x o p z = (refl, z)
judged-first false x o p z = absurd (omega arith)

pub cell-is : (n t o i : ℕ) (bs : List ℕ) → 0 < o → first_bad t o n bs ≡ 0 → i < n
    → is_some (cell_of t (take cell_bytes (drop (i * cell_bytes) bs))) ≡ true
unfolding first_bad
cell-is zero t o i bs p z h = absurd (omega arith)
cell-is (suc n) t o zero bs p z h = (judged-first (is_some (cell_of t (take cell_bytes bs))) _ o p z).0
cell-is (suc n) t o (suc i) bs p z h =
    let e : suc i * cell_bytes ≡ cell_bytes + i * cell_bytes = omega arith in
    ap (λ (j : ℕ). is_some (cell_of t (take cell_bytes (drop j bs)))) e ∙ sym (ap (λ (l : List ℕ). is_some (cell_of t (take cell_bytes l))) (drop-drop (i * cell_bytes) cell_bytes bs))
    ∙ cell-is n t (o + 1) i (drop cell_bytes bs) (omega arith) (judged-first (is_some (cell_of t (take cell_bytes bs))) _ o p z).1 (omega arith)
