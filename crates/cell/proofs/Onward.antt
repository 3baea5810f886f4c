-- The laws of `onward`: what one cell more does to what is left to do, and the end. Assumes nothing.
use Rattle.std.specs.Prelude.{Ok, Some, None}
use Rattle.std.proofs.Common.{◌≡◌, ℕ, ◌+◌, ◌%◌, ◌^◌, ◌<◌, true, false, List, [], ◌∷◌, sym, ap, ◌∙◌, arith, eq-eqb, ne_eqb}
use lib.Ieee.{Float, binary64, add}
use Rattle.paper.specs.Limits.{most_cells}
use Rattle.paper.specs.Refusals.{◌>>=◌}
use Rattle.paper.specs.Cells.{finite}
use Rattle.paper.specs.Totals.{Numbered, Running, float, sum_on, float_sum}
use Rattle.paper.specs.declared.Cell.TheVariants.{Empty, Float as Number}
use Rattle.cell.specs.declared.means.Mean.{Mean}
use Rattle.cell.specs.Totals.{running, onward, after}

pub onward-none : (made : Running → Float) (k : ℕ) (m : Mean) (cs : List Numbered) → m.count ≡ 0 → onward made k m cs ≡ float_sum made k cs
unfolding onward
onward-none made k m cs e = simp (eq-eqb m.count 0 e)

onward-some : (made : Running → Float) (k : ℕ) (m : Mean) (cs : List Numbered) → (m.count ≡ 0 → ⊥)
    → onward made k m cs ≡ (sum_on k (running m) cs >>= (λ r. Ok (Number (made r))))
unfolding onward
onward-some made k m cs n = simp (ne_eqb m.count 0 n)

-- ---- the end

pub end_none : (made : Running → Float) (k : ℕ) (m : Mean) → m.count ≡ 0 → Ok Empty ≡ onward made k m []
unfolding float_sum
end_none made k m e = sym (onward-none made k m [] e)

pub end-some : (made : Running → Float) (k : ℕ) (m : Mean) → (m.count ≡ 0 → ⊥) → Ok (Number (made (running m))) ≡ onward made k m []
unfolding sum_on
end-some made k m n = sym (onward-some made k m [] n)

-- ---- one cell more, whose number is x

module _ (m : Mean) (x : Float) (made : Running → Float) (k : ℕ) (c : Numbered) (cs : List Numbered) (is : float c.cell ≡ x) where
  -- the first is the sum
  pub first : m.count ≡ 0 → onward made k m (c ∷ cs) ≡ after made k c.at (Some (record { sum = x; count = 1 })) cs
  unfolding after float_sum
  first e =
      onward-none made k m (c ∷ cs) e
      ∙ ap (λ (y : Float). sum_on k (record { sum = y; count = 1 }) cs >>= (λ r. Ok (Number (made r)))) is
      ∙ sym (onward-some made k (record { sum = x; count = 1 }) cs (λ z. omega arith))

  -- a later one is added
  pub later : (n : ℕ) → (m.count ≡ 0 → ⊥) → finite (add binary64 m.sum x) ≡ true → n ≡ (m.count + 1) % 2 ^ 32 → m.count < most_cells
      → onward made k m (c ∷ cs) ≡ after made k c.at (Some (record { sum = add binary64 m.sum x; count = n })) cs
  unfolding after sum_on
  later n some f e few =
      let nn : n ≡ m.count + 1 = omega arith in
      onward-some made k m (c ∷ cs) some
      ∙ rw (is, f, ← nn) (sym (onward-some made k (record { sum = add binary64 m.sum x; count = n }) cs (λ z. omega arith)))

  -- or its addition fails
  pub fails : (m.count ≡ 0 → ⊥) → finite (add binary64 m.sum x) ≡ false → onward made k m (c ∷ cs) ≡ after made k c.at None cs
  unfolding after sum_on
  fails some f = onward-some made k m (c ∷ cs) some ∙ rw (is, f)
