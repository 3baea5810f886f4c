-- Going over cells: what each step keeps, from the first cell on.
use Rattle.std.specs.Prelude.{ℕ, ◌+◌, ◌<◌, ◌≤◌, List, [], ◌∷◌, drop}
use Rattle.std.specs.List.{FoldsTo}
use Rattle.paper.specs.declared.Cell.{Cell}
use Rattle.totals.specs.Cells.{cells_at, one_at, cell-next, none_left}

-- steps that are others too
pub folds-as : {T : Type 0} {P R : T → Cell → T → Type 0} → ((t : T) (c : Cell) (r : T) → P t c r → R t c r)
    → (cs : List Cell) (t r : T) → FoldsTo P t cs r → FoldsTo R t cs r
folds-as h [] t r f = f
folds-as h (c ∷ cs) t r f = (f.0, h t c f.0 f.1, folds-as h cs f.0 r f.2)

module _ {T : Type 0} (R : T → Cell → T → Type 0) (bs : List ℕ) (at t n : ℕ) where
  -- a step over cell i, and the rest
  pub folds-next : (i : ℕ) → i < n → (a b last : T) → R a (one_at bs at t i) b → FoldsTo R b (drop (i + 1) (cells_at bs at t n)) last
      → FoldsTo R a (drop i (cells_at bs at t n)) last
  folds-next i h a b last x f = rw (cell-next bs at t n i h) (b, x, f)

  -- none is left
  pub folds-end : (i : ℕ) → n ≤ i → (a : T) → FoldsTo R a (drop i (cells_at bs at t n)) a
  folds-end i h a = rw (none_left bs at t n i h)
