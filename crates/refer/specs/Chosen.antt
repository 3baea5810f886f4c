-- An array of a bundle, chosen by its number, as the paper chooses it; and its cells by index.
use Rattle.std.specs.Prelude.{ℕ, ◌+◌, ◌-◌, ◌*◌, ◌≤◌, ◌<◌, ◌≡◌, refl, List, [], take, drop, get_or, None, Ok, Err}
use Rattle.std.proofs.Math.Path.{sym, ap, subst}
use Rattle.std.proofs.Common.{◌∙◌, arith, drop-drop, length-take-le}
use Rattle.paper.specs.declared.Cell.TheVariants.{Empty}
use Rattle.paper.specs.declared.Extent.{Extent}
use Rattle.paper.specs.declared.Head.{Head}
use Rattle.paper.specs.declared.Reading.{Reading}
use Rattle.paper.specs.declared.Refusal.{Refusal}
use Rattle.paper.specs.Limits.{cell_bytes}
use Rattle.paper.specs.Refusals.{Res, ◌>>=◌, refusal, present, unknown4}
use Rattle.paper.specs.Numbers.{part, nth}
use Rattle.paper.specs.Axes.{Shape}
use Rattle.paper.specs.Cells.{cell_of}
use Rattle.paper.specs.Reference.{chosen}
use Rattle.paper.specs.Answers.{shape_of, reading}
use Rattle.laws.specs.Answers.{no_head}
use Rattle.laws.specs.Judged.{or_empty, cell-no}
use Rattle.laws.specs.Lists.{get_d_any, nth_past, nth-mapped, nth-first}
use Rattle.bundle.specs.Read.{cells_in, array_at, Fit, ReadAll}

-- what is told of array k: its shape, and the byte at which its cells begin
unfoldable pub array_told : List ℕ → ℕ → Res (Shape × ℕ)
array_told bundle k = do
  arrays ← reading bundle
  present (nth arrays k) (refusal unknown4 k 0)

-- of a head
abbrev pub told_of : Head → Shape × ℕ
told_of h = (shape_of h.form, h.at)

-- the head of array k: the array that it names is the one chosen, what it tells is told, and it fits
pub record ItsHead (bs : List ℕ) (k : ℕ) (h : Head) : Type 0 where
  pub said : Ok (array_at bs h) ≡ chosen bs k
  pub told : Ok (told_of h) ≡ array_told bs k
  pub fit : Fit bs h

-- the same, or the refusal
abbrev pub ChosenHead : List ℕ → ℕ → Res Head → Type 0
ChosenHead bs k (Ok h) = ItsHead bs k h
ChosenHead bs k (Err x) = (Err x ≡ chosen bs k) × (Err x ≡ array_told bs k)

-- ---- the ways out

-- what an array of heads is read as past its end
abbrev pub past_head : Head
past_head =
    let e : Extent = record { rank = 0; axes = [] } in
    record { form = record { kind = 0; names = []; extent = e; maximum = e }; at = 0; cells = 0 }

module _ {bs : List ℕ} (k : ℕ) where
  -- the bundle's own refusal
  pub bundle-refuses : {x : Refusal} → ReadAll bs (Err x) → ChosenHead bs k (Err x)
  unfolding chosen array_told
  bundle-refuses v = (rw (← v.arrays) refl, rw (← v.said) refl)

  -- it was read
  module _ {o : Reading} (v : ReadAll bs (Ok o)) where
    abbrev heads : List Head
    heads = take o.count o.heads

    -- no such array
    unknown : nth heads k ≡ None → ChosenHead bs k (Err (refusal unknown4 k 0))
    unfolding chosen array_told
    unknown n = (rw (← v.arrays, nth-mapped (array_at bs) heads k, n) refl, rw (← v.said, nth-mapped told_of heads k, n) refl)

    pub unknown-none : k ≡ 0 → ChosenHead bs k (Err (refusal unknown4 k 0))
    unknown-none a = unknown (rw a refl)

    pub unknown-past : o.count < k → ChosenHead bs k (Err (refusal unknown4 k 0))
    unknown-past a = unknown (nth_past heads k (omega (arith, length-take-le o.count o.heads v.kept.room)))

    -- array k
    pub known : 1 ≤ k → k ≤ o.count → ChosenHead bs k (Ok (get_or o.heads (k - 1) past_head))
    unfolding chosen array_told
    known a b =
        let w = v.kept in
        let n = nth-first (array_at bs) o.heads no_head o.count k a b w.room in
        let m = nth-first told_of o.heads no_head o.count k a b w.room in
        let p = get_d_any o.heads (k - 1) past_head no_head (omega (arith, w.room)) in
        let its : ItsHead bs k (get_or o.heads (k - 1) no_head) =
        record { said = rw (← v.arrays, n) refl; told = rw (← v.said, m) refl; fit = w.fit (k - 1) (omega arith) } in
        subst (ItsHead bs k) (sym p) its

-- ---- its cells

-- cell i of the array that a head names is the one at its place in the bytes
pub cell_at : (bs : List ℕ) (h : Head) (i : ℕ) → i < cells_in h.form
    → get_or (array_at bs h).cells i Empty ≡ or_empty (cell_of h.form.kind (part (h.at + i * cell_bytes) cell_bytes bs))
unfolding array_at
cell_at bs h i b =
    cell-no (cells_in h.form) h.form.kind i (drop h.at bs) b
    ∙ ap (λ (l : List ℕ). or_empty (cell_of h.form.kind (take cell_bytes l))) (drop-drop (i * cell_bytes) h.at bs)
