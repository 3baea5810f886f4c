-- Where an operand lies, in the bundle, in the work area, or as one scalar for all, and a cell of it as it lies: its mark and its word.
use Rattle.std.specs.Prelude.{ℕ, ◌+◌, ◌*◌, ◌≤◌, ◌≡◌, Bool, true, false, List, eqb, length, get_or, if◌then◌else◌}
use Rattle.std.proofs.Common.{ap, ◌∙◌}
use Rattle.paper.specs.Limits.{cell_bytes, word_bytes}
use Rattle.paper.specs.Numbers.{le_of, part}
use Rattle.quick.specs.declared.operands.Source.{Source}
use Rattle.quick.specs.declared.operands.Pairing.{Pairing}

abbrev pub source : ℕ → ℕ → Source
source w i = record { which = w; at = i }

-- in the bundle, in the work area, or a scalar for all
abbrev pub bundle_side : ℕ
bundle_side = 0

abbrev pub work_side : ℕ
work_side = 1

abbrev pub scalar_side : ℕ
scalar_side = 2

abbrev pub pairing : ℕ → ℕ → Source → Source → Pairing
pairing c w a b = record { code = c; scalar = w; first = a; second = b }

-- which of the two operands is a scalar
pub record Sides (q : Pairing) (l r : Bool) : Type 0 where
  pub first : eqb q.first.which scalar_side ≡ l
  pub second : eqb q.second.which scalar_side ≡ r

-- ---- a cell as it lies

-- the bundle, or the results so far
abbrev pub bytes_in : ℕ → List ℕ → List ℕ → List ℕ
bytes_in w bundle done = if eqb w work_side then done else bundle

-- off bytes after its first cell
abbrev pub mark_from : List ℕ → List ℕ → Source → ℕ → ℕ
mark_from bundle done f off = if eqb f.which scalar_side then 1 else get_or (bytes_in f.which bundle done) (f.at + off) 0

abbrev pub word_from : List ℕ → List ℕ → ℕ → Source → ℕ → ℕ
word_from bundle done w f off = if eqb f.which scalar_side then w else le_of (part (f.at + off + 1) word_bytes (bytes_in f.which bundle done))

-- a cell is there
abbrev pub Lies : List ℕ → List ℕ → Source → ℕ → Type 0
Lies bundle done f off = eqb f.which scalar_side ≡ false → f.at + off + cell_bytes ≤ length (bytes_in f.which bundle done)

-- cell k
abbrev pub mark_at : List ℕ → List ℕ → Source → ℕ → ℕ
mark_at bundle done f k = mark_from bundle done f (k * cell_bytes)

abbrev pub word_at : List ℕ → List ℕ → ℕ → Source → ℕ → ℕ
word_at bundle done w f k = word_from bundle done w f (k * cell_bytes)

pub record Reaches (bundle done : List ℕ) (f : Source) (k : ℕ) : Type 0 where
  pub room : Lies bundle done f (k * cell_bytes)

-- read where it lies
pub raw-there : (bundle done side : List ℕ) (f : Source) (w x off : ℕ) → eqb f.which scalar_side ≡ false
    → side ≡ bytes_in f.which bundle done
    → x ≡ le_of (part (f.at + off + 1) word_bytes side) → (get_or side (f.at + off) 0 ≡ mark_from bundle done f off) × (x ≡ word_from bundle done w f off)
raw-there bundle done side f w x off e q h =
    (rw e (ap (λ (l : List ℕ). get_or l (f.at + off) 0) q), rw e (h ∙ ap (λ (l : List ℕ). le_of (part (f.at + off + 1) word_bytes l)) q))

-- the bytes are no longer than the longer of the two
pub bytes_most : (w : ℕ) (bundle done : List ℕ) (m : ℕ) → length bundle ≤ m → length done ≤ m → length (bytes_in w bundle done) ≤ m
bytes_most w bundle done m h l = by (eqb w work_side)
  where
    by : (t : Bool) → length (if t then done else bundle) ≤ m
    by true = l
    by false = h
