-- The loop over the items of an axis: what is stored and what is left, in brackets, are the whole row.
use Rattle.std.specs.Prelude.{ℕ, suc, ◌+◌, ◌-◌, ◌*◌, ◌≤◌, ◌<◌, ◌≡◌, refl, List, [], ◌∷◌, ◌++◌, length}
use Rattle.std.proofs.Common.{ap, ◌∙◌, append_assoc, suc-mul, zero-mul, length-append}
use native.Mathlib.Omega.{arith}
use Rattle.std.proofs.lemmas.List.Edits.{sets}
use Rattle.std.proofs.Math.Seq.{length-sets}
use Rattle.json_write.specs.Stores.{Stored, sets-append, stored-then}
use Rattle.json_write.specs.Texts.{comma, items, row_of, row-length}

-- begun at out₀, at₀ and cell₀, after the opening bracket: of w items n are left
pub record Rowing (out₀ : List ℕ) (F : ℕ → List ℕ) (s w at₀ cell₀ : ℕ) (out : List ℕ) (cell at n : ℕ) : Type 0 where
  pub within : n ≤ w
  pub long : length out ≡ length out₀
  pub cell-is : cell + n * s ≡ cell₀ + w * s
  pub at-is : at + length (items n F s cell) ≡ at₀ + length (items w F s cell₀)
  pub same : sets out at (items n F s cell ++ (93 ∷ [])) ≡ sets out₀ at₀ (items w F s cell₀ ++ (93 ∷ []))

pub rowing-begins : (out₀ : List ℕ) (F : ℕ → List ℕ) (s w at₀ cell₀ : ℕ) → Rowing out₀ F s w at₀ cell₀ out₀ cell₀ at₀ w
rowing-begins out₀ F s w at₀ cell₀ = record { within = omega arith; long = refl; cell-is = refl; at-is = refl; same = refl }

items_more : (n : ℕ) (F : ℕ → List ℕ) (s i : ℕ) → 0 < n → items n F s i ≡ F i ++ (comma (n - 1) ++ items (n - 1) F s (i + s))
unfolding items
items_more n F s i h = let e : n ≡ suc (n - 1) = omega arith in ap (λ (m : ℕ). items m F s i) e

fewer : (n s : ℕ) → 0 < n → n * s ≡ (n - 1) * s + s
fewer n s h = let e : n ≡ suc (n - 1) = omega arith in ap (λ (m : ℕ). m * s) e ∙ suc-mul (n - 1) s

module _ {out₀ : List ℕ} {F : ℕ → List ℕ} {s w at₀ cell₀ : ℕ} {out : List ℕ} {cell at n : ℕ}
    (x : Rowing out₀ F s w at₀ cell₀ out cell at n) where
  pub row-cell : 0 < n → cell + s ≤ cell₀ + w * s
  row-cell h = omega (arith, fewer n s h)

  -- what is left fits, so an item fits, and a comma or nothing after it; and so does the closing bracket
  module _ (begin room : ℕ) (a : at₀ ≡ begin + 1) (fits : begin + length (row_of w F s cell₀) ≤ room) where
    pub row_at : 0 < n → at + length (F cell) + length (comma (n - 1)) < room
    row_at h = omega (arith, simp length-append at fits, simp length-append at (ap length (items_more n F s cell h)))

    pub row-end : at < room
    row-end = omega (arith, simp length-append at fits)

  pub row-turn : {out₁ out₂ : List ℕ} {at₁ at₂ cell₂ : ℕ} → 0 < n → Stored out at (F cell) at₁ out₁
      → Stored out₁ at₁ (comma (n - 1)) at₂ out₂ → cell₂ ≡ cell + s → Rowing out₀ F s w at₀ cell₀ out₂ cell₂ at₂ (n - 1)
  row-turn {out₁} {out₂} {at₁} {at₂} {cell₂} h p q c₂ =
      let more : items n F s cell ≡ (F cell ++ comma (n - 1)) ++ items (n - 1) F s cell₂ =
      rw (append_assoc, c₂) (items_more n F s cell h) in
      let t = stored-then out at (F cell) (comma (n - 1)) p q in
      record {
        within = omega arith;
        long = rw (t.1, length-sets) x.long;
        cell-is = omega (arith, fewer n s h);
        at-is = omega (arith, simp length-append at (ap length more));
        same = rw (t.1, t.0, ← sets-append (F cell ++ comma (n - 1)), ← append_assoc, ← more) x.same;
      }

  -- none is left: the bracket is closed
  module _ (end : n ≤ 0) where
    none_left : items n F s cell ≡ []
    unfolding items
    none_left = let e : n ≡ 0 = omega arith in rw e

    pub shut-cell : cell ≡ cell₀ + w * s
    shut-cell = let z : n ≡ 0 = omega arith in omega (arith, rw (z, zero-mul) at x.cell-is)

    pub shut_row : (entry : List ℕ) (begin : ℕ) {r : ℕ} {last : List ℕ} → Stored entry begin (91 ∷ []) at₀ out₀
        → Stored out at (93 ∷ []) r last → Stored entry begin (row_of w F s cell₀) r last
    shut_row entry begin p q =
        let s₀ : at₀ ≡ suc begin = omega arith in (
          omega (arith, ap length none_left, row-length w F s cell₀),
          q.1 ∙ (rw (none_left, p.1, s₀) at x.same),
        )
