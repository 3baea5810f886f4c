-- A text stored in a buffer: where it ends, and what the buffer then holds. One text after the other is both.
use Rattle.std.specs.Prelude.{ℕ, suc, ◌+◌, ◌≤◌, ◌≡◌, List, [], ◌∷◌, ◌++◌, length, set}
use Rattle.std.proofs.Common.{sym, ◌∙◌, add-zero, arith, length-append}
use Rattle.std.proofs.lemmas.List.Edits.{sets, sets-eq}
use Rattle.decimal.specs.Wrote.{Wrote}

-- x was stored into d from byte `at` on, which gave y, and r is the byte after x
abbrev pub Stored : List ℕ → ℕ → List ℕ → ℕ → List ℕ → Type 0
Stored d at x r y = (r ≡ at + length x) × (y ≡ sets d at x)

pub sets-append : (a b l : List ℕ) (i : ℕ) → sets l i (a ++ b) ≡ sets (sets l i a) (i + length a) b
sets-append [] b l i = rw add-zero
sets-append (x ∷ a) b l i = let e : i + suc (length a) ≡ suc i + length a = omega arith in rw e (sets-append a b (set l i x) (suc i))

-- x, and then w
pub stored-then : (d : List ℕ) (at : ℕ) (x w : List ℕ) {m r : ℕ} {y z : List ℕ} → Stored d at x m y → Stored y m w r z
    → Stored d at (x ++ w) r z
stored-then d at x w p q = (omega (arith, length-append x w), rw (sets-append x w d at, ← p.0, ← p.1) q.1)

-- what a writer of decimal text wrote is stored
pub wrote-stored : (d : List ℕ) (at : ℕ) (x : List ℕ) {r : ℕ} {y : List ℕ} → at + length x ≤ length d → Wrote d at x r y → Stored d at x r y
wrote-stored d at x h p = (p.0, p.1 ∙ sym (sets-eq x d at h))
