-- Cells: a cell and its nine bytes give one another back, so that no cell has two forms, and what was read is a cell of its type.
use Rattle.std.specs.Prelude.{◌≡◌, true, ◌&&◌, List, [], ◌∷◌, ℕ, suc, ◌^◌, ◌<◌, eqb, length, Some}
use Rattle.std.proofs.Common.{ap, ◌∙◌, subst, arith}
use Rattle.paper.specs.Limits.{word_bytes, cell_bytes}
use Rattle.paper.specs.Numbers.{le_of}
use Rattle.paper.specs.Cells.{cell_from, cell_of, mark_of, word_of, encode, is_type}
use Rattle.paper.specs.declared.Cell.{Cell}
use Rattle.paper.specs.declared.Cell.TheVariants.{Empty}
use Rattle.laws.specs.Numbers.{Bytes, le_of-le_bytes, le_of-lt}
use Rattle.laws.specs.Cells.{OfKind, word_lt, parts-back, inj, bad, either, eight, filled-kind}

-- a cell's bytes are read as that cell
pub cell-back : (kind : ℕ) (c : Cell) → OfKind kind c → cell_of kind (encode c) ≡ Some c
unfolding encode cell_from
cell-back kind c h = ap (cell_from kind (mark_of c)) (le_of-le_bytes word_bytes (word_of c) (word_lt kind c h)) ∙ parts-back kind c h

from-kind : (kind mark n : ℕ) (c : Cell) → is_type kind ≡ true → n < 2 ^ 64 → cell_from kind mark n ≡ Some c → OfKind kind c
unfolding cell_from OfKind
from-kind kind mark n c t h =
    either (eqb mark 1) _ _ (Some c) (OfKind kind c) (λ m e. filled-kind kind n c t h e)
    (λ _. either (eqb mark 0 && eqb n 0) _ _ (Some c) (OfKind kind c) (λ z e. subst (OfKind kind) (inj Empty c e) tt) (λ _ e. absurd (bad c e)))

-- bytes that are read as a cell of a type give one of that type
pub cell-kind : (kind : ℕ) (bs : List ℕ) (c : Cell) → is_type kind ≡ true → length bs ≡ cell_bytes → Bytes bs → cell_of kind bs ≡ Some c
    → OfKind kind c
unfolding cell_from
cell-kind kind [] c t l h e = absurd (no l)
  where
    no : ◌≡◌ {A = ℕ} 0 cell_bytes → ⊥
    no l = omega arith
cell-kind kind (m ∷ bs) c t l h e =
    let k : length bs ≡ word_bytes = eight (length bs) l in
    from-kind kind m (le_of bs) c t (subst (λ (j : ℕ). le_of bs < 256 ^ j) k (le_of-lt bs (λ i. h (suc i)))) e
