-- What an operation byte and an operator byte say, as the paper has it: an operation, or none.
use Rattle.std.specs.Prelude.{ℕ, zero, suc, ◌-◌, ◌<◌, ◌≡◌, refl, List, [], ◌∷◌, Option, None, Some}
use Rattle.std.proofs.Common.{ap, ◌∙◌, arith}
use Rattle.paper.specs.declared.Operation.{Operation}
use Rattle.paper.specs.Recipe.{operation}
use Rattle.operators.proofs.Beyond.{Differs}

abbrev countdown : ℕ → List ℕ
countdown zero = []
countdown (suc k) = suc k ∷ countdown k

above : (n k : ℕ) → 0 < n → Differs n (countdown k) → k < n
above n zero l d = l
above n (suc k) l d = let h : k < n = above n k l d.0 in let e : n ≡ suc k → ⊥ = d.1 in omega (arith, e)

far : (m o : ℕ) → None ≡ operation (suc (suc (suc (suc (suc (suc (suc (suc (suc (suc (suc (suc (suc m))))))))))))) o
unfolding operation
far m o = refl

-- no operation has another number than 1 to 12
pub no-operation : (n o : ℕ) → Differs n (countdown 12) → None ≡ operation n o
unfolding operation
no-operation zero o d = refl
no-operation (suc n) o d =
    let e : suc (suc (suc (suc (suc (suc (suc (suc (suc (suc (suc (suc (suc (suc n - 13))))))))))))) ≡ suc n = omega (arith, above (suc n) 12 (omega arith) d) in
    far (suc n - 13) o ∙ ap (λ (k : ℕ). operation k o) e
