-- The laws of an exact total: a cell more, and what the total says when all cells went in. All is linear, in the numbers' two parts.
-- Assumes nothing.
use Rattle.std.specs.Prelude.{Ok, Err}
use Rattle.paper.specs.declared.Fault.TheVariants.{NoFit}
use Rattle.std.proofs.Common.{◌≡◌, ℕ, ◌+◌, ◌-◌, ◌*◌, ◌/◌, ◌%◌, ◌^◌, ◌<◌, ◌≤◌, List, [], ◌∷◌, ◌++◌, length, ℤ, pos, ◌+ℤ◌, ◌-ℤ◌, sym, refl, ap, ◌∙◌, ap₂, arith, length-append, w64, SFits, to_z, of_z}
use lib.IntN.{+ℤ_idl, +ℤ_idr, +ℤ_assoc}
use Rattle.paper.specs.Limits.{smallest_int, most_cells}
use Rattle.paper.specs.Operators.{fit_int, answered, Answer}
use Rattle.paper.specs.Totals.{Numbered, int, int_total, int_sum}
use Rattle.paper.specs.declared.Cell.TheVariants.{Empty, Int}
use Rattle.laws.specs.Parts.{up, dn, one-part, add_parts, minus-parts, parts-eq}
use Rattle.cell.specs.declared.sums.Exact.{Exact}
use Rattle.cell.specs.Totals.{worth, Sums}
use Rattle.cell.proofs.Fit.{fit-high, fit_low, fit-back}

-- a cell more at the end of the list
total-more : (cs : List Numbered) (c : Numbered) → int_total (cs ++ (c ∷ [])) ≡ int_total cs +ℤ int c.cell
unfolding int_total
total-more [] c = +ℤ_idr (int c.cell) ∙ sym (+ℤ_idl (int c.cell))
total-more (d ∷ cs) c = ap (λ (z : ℤ). int d.cell +ℤ z) (total-more cs c) ∙ sym (+ℤ_assoc (int d.cell) (int_total cs) (int c.cell))

-- none yet
pub sums_none : Sums (record { high = 0; low = 0; count = 0 }) []
unfolding int_total
sums_none = record { few = omega arith; count = refl; highs = omega arith; lows = omega arith; total = refl }

-- x is the distance of z above the smallest INT, and h, l, n are the fields with it added
module _ (t : Exact) (x h l n : ℕ) (z : ℤ) (e : pos x ≡ z -ℤ smallest_int) (fits : x < 2 ^ 64) (eh : h ≡ (t.high + x / 2 ^ 32) % 2 ^ 64)
    (el : l ≡ (t.low + x % 2 ^ 32) % 2 ^ 64) (en : n ≡ (t.count + 1) % 2 ^ 32) where
  pub sums-more : (cs : List Numbered) (c : Numbered) → Sums t cs → int c.cell ≡ z → length cs < most_cells
      → Sums (record { high = h; low = l; count = n }) (cs ++ (c ∷ []))
  sums-more cs c s i few =
      let k : t.count < most_cells = omega (arith, s.count) in
      let hh : h ≡ t.high + x / 2 ^ 32 = omega (arith, s.highs) in
      let ll : l ≡ t.low + x % 2 ^ 32 = omega (arith, s.lows) in
      let nn : n ≡ t.count + 1 = omega arith in
      let more : length (cs ++ (c ∷ [])) ≡ length cs + 1 = length-append cs (c ∷ []) in
      let r : Exact = record { high = h; low = l; count = n } in
      let w : worth r ≡ worth t +ℤ z = parts-eq (worth r) (worth t +ℤ z)
      (omega (arith, ap up e, ap dn e, minus-parts z smallest_int, one-part z, minus-parts (pos (t.high * 2 ^ 32 + t.low)) (pos (t.count * 2 ^ 63)), minus-parts (pos (h * 2 ^ 32 + l)) (pos (n * 2 ^ 63)), add_parts (worth t) z)) in
      record {
        few = omega arith;
        count = omega (arith, s.count);
        highs = omega (arith, s.highs);
        lows = omega (arith, s.lows);
        total = w ∙ ap₂ (λ (a b : ℤ). a +ℤ b) s.total (sym i) ∙ sym (total-more cs c);
      }

-- ---- the answer

pub none_said : (t : Exact) → t.count ≡ 0 → (k : ℕ) (cs : List Numbered) → Sums t cs → answered k 0 (Ok Empty) ≡ int_sum k cs
unfolding answered int_sum
none_said t e k [] s = refl
none_said t e k (c ∷ cs) s = absurd (omega (arith, s.count))

said : (t : Exact) (r : Answer) → (t.count ≡ 0 → ⊥) → r ≡ fit_int (worth t) → (k : ℕ) (cs : List Numbered) → Sums t cs → answered k 0 r ≡ int_sum k cs
unfolding int_sum
said t r n e k [] s = absurd (n s.count)
said t r n e k (c ∷ cs) s = ap (answered k 0) (e ∙ ap fit_int s.total)

-- top less the base is the total and 2 ^ 63, by its upper half
module _ (t : Exact) (some : t.count ≡ 0 → ⊥) (top : ℕ) (e : top ≡ ((t.high + t.low / 2 ^ 32) % 2 ^ 64 + 2 ^ 31) % 2 ^ 64) (k : ℕ)
    (cs : List Numbered) (s : Sums t cs) where
  exact : (top ≡ t.high + t.low / 2 ^ 32 + 2 ^ 31) × (t.count ≤ most_cells)
  exact = omega (arith, s.few, s.highs, s.lows)

  pub too-low : top < t.count * 2 ^ 31 → answered k 0 (Err NoFit) ≡ int_sum k cs
  too-low l =
      said t (Err NoFit) some
      (sym (fit_low (worth t) (omega (arith, exact, minus-parts (pos (t.high * 2 ^ 32 + t.low)) (pos (t.count * 2 ^ 63)))))) k cs s

  pub too-high : 2 ^ 32 ≤ top - t.count * 2 ^ 31 → answered k 0 (Err NoFit) ≡ int_sum k cs
  too-high l =
      said t (Err NoFit) some
      (sym (fit-high (worth t) (omega (arith, exact, minus-parts (pos (t.high * 2 ^ 32 + t.low)) (pos (t.count * 2 ^ 63)))))) k cs s

  pub fitting : t.count * 2 ^ 31 ≤ top → (z : ℤ) → SFits w64 z → z ≡ pos ((top - t.count * 2 ^ 31) * 2 ^ 32 + t.low % 2 ^ 32) +ℤ smallest_int
      → answered k 0 (Ok (Int (to_z w64 (of_z w64 z)))) ≡ int_sum k cs
  fitting l z f i =
      let x : ℕ = (top - t.count * 2 ^ 31) * 2 ^ 32 + t.low % 2 ^ 32 in
      let w : pos x +ℤ smallest_int ≡ worth t = parts-eq (pos x +ℤ smallest_int) (worth t)
      (omega (arith, exact, add_parts (pos x) smallest_int, minus-parts (pos (t.high * 2 ^ 32 + t.low)) (pos (t.count * 2 ^ 63)))) in
      said t (Ok (Int (to_z w64 (of_z w64 z)))) some (fit-back z f ∙ ap fit_int (i ∙ w)) k cs s
