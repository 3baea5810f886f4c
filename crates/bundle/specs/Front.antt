-- An array that a loop fills from the front: with one element more, those in front, and the blank ones behind them.
use Rattle.std.specs.Prelude.{ℕ, suc, ◌+◌, ◌-◌, ◌<◌, ◌≡◌, List, [], ◌∷◌, ◌++◌, length, take, drop, set, replicate}
use Rattle.std.proofs.Common.{sym, ap, ◌∙◌, add-one, arith, drop-drop, drop-set-lt, take-suc-set}

module _ {A : Type 0} (l : List A) (i : ℕ) (a : A) where
  pub front-more : i < length l → take (i + 1) (set l i a) ≡ take i l ++ (a ∷ [])
  front-more h = ap (λ (j : ℕ). take j (set l i a)) (add-one i) ∙ take-suc-set l i a h

  pub blank-more : (m : ℕ) (b : A) → i < m → drop i l ≡ replicate (m - i) b → drop (i + 1) (set l i a) ≡ replicate (m - (i + 1)) b
  blank-more m b h e =
      let p : m - i ≡ suc (m - (i + 1)) = omega arith in
      drop-set-lt (i + 1) l i a (omega arith) ∙ sym (drop-drop 1 i l) ∙ ap (drop 1) e ∙ ap (λ (j : ℕ). drop 1 (replicate j b)) p
