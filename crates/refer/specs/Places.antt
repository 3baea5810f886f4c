-- A reference by the place found, and a walk by its walking place: each way out of the code from the tests that lead to it.
use Rattle.std.specs.Prelude.{ℕ, ◌+◌, ◌-◌, ◌*◌, ◌≤◌, ◌<◌, ◌≡◌, refl, Bool, true, List, map, length, take, get_or, set, ℤ, pos, if◌then◌else◌, Ok, Err, Some, None, Option}
use Rattle.std.proofs.Common.{sym, ◌∙◌, add-one, arith, take-suc-set, take-suc, take_all}
use Rattle.std.proofs.Math.Bool.{false}
use borrow.Author.Tests.{eq-eqb, ne_eqb}
use Rattle.std.proofs.lemmas.List.{length-map}
use Rattle.std.proofs.Math.ListN.{get_or-map}
use Rattle.paper.specs.declared.Cell.{Cell}
use Rattle.paper.specs.declared.Cell.TheVariants.{Empty}
use Rattle.paper.specs.declared.Name.{Name}
use Rattle.paper.specs.declared.Head.{Head}
use Rattle.paper.specs.declared.Place.{Place}
use Rattle.paper.specs.declared.Place.TheVariants.{At, InMaximum, Beyond}
use Rattle.paper.specs.declared.Ordinality.{Ordinality}
use Rattle.paper.specs.declared.Refusal.{Refusal}
use Rattle.paper.specs.Limits.{most_cells, cell_bytes}
use Rattle.paper.specs.Refusals.{Res, refusal, between, bad_axis5, outside6}
use Rattle.paper.specs.Numbers.{part, distance}
use Rattle.paper.specs.Axes.{cells, inside, ordinality, place_of, Shape, shaped}
use Rattle.paper.specs.Cells.{cell_of}
use Rattle.paper.specs.Reference.{chosen, referred, reference, seen, walked_on, Walked, walk}
use Rattle.paper.specs.Answers.{axes_of, shape_of}
use Rattle.laws.specs.Tests.{between-true}
use Rattle.laws.specs.Places.{inside-true, ordinality-bounds}
use Rattle.laws.specs.Judged.{or_empty}
use Rattle.bundle.specs.Read.{array_at}
use Rattle.refer.specs.Chosen.{ItsHead, cell_at}

-- ---- a coordinate's positions, one after the other

pub coordinate-more : (zs : List ℤ) (at : List ℕ) (i d : ℕ) → i < length zs → i < length at → d ≡ distance (get_or zs i (pos 0))
    → take i at ≡ take i (map distance zs)
    → take (i + 1) (set at i d) ≡ take (i + 1) (map distance zs)
coordinate-more zs at i d h k e v =
    let l : i < length (map distance zs) = omega (arith, length-map zs distance) in
    rw (add-one, take-suc-set at i d, v, e, take-suc (map distance zs) i (distance (pos 0)), get_or-map distance zs i (pos 0))

pub coordinate-end : (zs : List ℤ) (at : List ℕ) (i : ℕ) → i ≤ length zs → length zs ≤ i → take i at ≡ take i (map distance zs)
    → take (length zs) at ≡ map distance zs
coordinate-end zs at i h k v =
    let e : i ≡ length zs = omega arith in (rw e at v) ∙ take_all (length zs) (map distance zs) (omega (arith, length-map zs distance))

-- ---- references

-- an ordinality that was found is one
found_in : (o : Ordinality) (b m : Bool) (n : ℕ) → At o ≡ (if b then At (record { 0 = n }) else (if m then InMaximum else Beyond))
    → (b ≡ true) × (o.0 ≡ n)
found_in o true m n e = (refl, cc)
found_in o false true n e = (cc, cc)
found_in o false false n e = (cc, cc)

place-bounds : (s : Shape) (p : List ℕ) (o : Ordinality) → At o ≡ place_of s p → (1 ≤ o.0) × (o.0 ≤ cells s.axes)
unfolding place_of
place-bounds s p o e =
    let f = found_in o (inside s.axes p) (inside s.maximum p) (ordinality s.axes p) e in
    omega (arith, ordinality-bounds s.axes p (inside-true s.axes p f.0))

module _ (bs : List ℕ) (k : ℕ) (zs : List ℤ) where
  -- the array's own refusal
  pub refer-refused : {x : Refusal} → Err x ≡ chosen bs k → Err x ≡ reference bs k zs
  unfolding reference
  refer-refused v = rw (← v)

  module _ {h : Head} (v : ItsHead bs k h) where
    -- another number of coordinates than axes
    pub refer-count : (length zs ≡ length (shape_of h.form).axes → ⊥) → Err (refusal bad_axis5 k 0) ≡ reference bs k zs
    unfolding reference array_at
    refer-count n = rw (← v.said, ne_eqb (length zs) (length (shape_of h.form).axes) n)

    -- the place that was found for the coordinate, whatever type and names are
    module _ (e : length zs ≡ length (shape_of h.form).axes) {p : Place} (at : List ℕ) (c : take (length zs) at ≡ map distance zs)
        (q : (t : ℕ) (N : List Name)
        → p ≡ place_of (shaped t N (axes_of h.form.extent) (axes_of h.form.maximum)) (take (length (axes_of h.form.extent)) at)) where
      spot : p ≡ place_of (shape_of h.form) (map distance zs)
      spot = rw (← c, e) (q h.form.kind (shape_of h.form).names)

      by_place : referred k (array_at bs h) p ≡ reference bs k zs
      unfolding reference array_at
      by_place = rw (← v.said, eq-eqb (length zs) (length (shape_of h.form).axes) e, ← spot)

      -- inside the extent: the cell, whose bytes are there
      module _ {o : Ordinality} (f : p ≡ At o) where
        pub its-cell : (1 ≤ o.0) × (h.at + (o.0 - 1) * cell_bytes + cell_bytes ≤ length bs)
        its-cell =
            let b = place-bounds (shape_of h.form) (map distance zs) o (sym f ∙ spot) in
            (b.0, omega (arith, b, v.fit.fits))

        pub refer-inside : Ok (or_empty (cell_of h.form.kind (part (h.at + (o.0 - 1) * cell_bytes) cell_bytes bs))) ≡ reference bs k zs
        unfolding referred
        refer-inside =
            let b = place-bounds (shape_of h.form) (map distance zs) o (sym f ∙ spot) in
            rw (← cell_at bs h (o.0 - 1) (omega (arith, b))) (rw f at by_place)

      -- inside the maximum only: empty; beyond it: 6
      pub refer-maximum : p ≡ InMaximum → Ok Empty ≡ reference bs k zs
      unfolding referred
      refer-maximum f = rw f at by_place

      pub refer-beyond : p ≡ Beyond → Err (refusal outside6 k 0) ≡ reference bs k zs
      unfolding referred
      refer-beyond f = rw f at by_place

-- ---- walks

-- a cell that is seen has an ordinality, so there is a number after it
abbrev pub Few : ℕ → Res (Option Cell) → Type 0
Few o (Ok (Some c)) = o ≤ most_cells
Few o (Ok None) = Unit {0}
Few o (Err x) = Unit {0}

module _ (bs : List ℕ) (k : ℕ) (o : ℕ) where
  -- the array's own refusal
  pub seen-refused : {x : Refusal} → Err x ≡ chosen bs k → Err x ≡ seen bs k o
  unfolding seen
  seen-refused v = rw (← v)

  module _ {h : Head} (v : ItsHead bs k h) where
    -- 0, or past the end
    pub seen-outside : between 1 (h.cells + 1) o ≡ false → Err (refusal outside6 k 0) ≡ seen bs k o
    unfolding seen array_at
    seen-outside b = rw (← v.said, ← v.fit.counted, b)

    module _ (b : between 1 (h.cells + 1) o ≡ true) where
      pub seen-end : o ≡ h.cells + 1 → Ok None ≡ seen bs k o
      unfolding seen array_at
      seen-end f = rw (← v.said, ← v.fit.counted, b, eq-eqb o (h.cells + 1) f)

      -- a cell, whose bytes are there
      module _ (n : o ≡ h.cells + 1 → ⊥) where
        pub its-place : (1 ≤ o) × (o ≤ h.cells) × (h.cells ≤ most_cells) × (h.at + h.cells * cell_bytes ≤ length bs)
        its-place =
            let r = between-true (h.cells + 1) o b in
            let f = v.fit in
            (r.0, omega arith, f.few, omega (arith, f.counted, f.fits))

        pub seen-cell : Ok (Some (or_empty (cell_of h.form.kind (part (h.at + (o - 1) * cell_bytes) cell_bytes bs)))) ≡ seen bs k o
        unfolding seen array_at
        seen-cell =
            let w = cell_at bs h (o - 1) (omega (arith, its-place, v.fit.counted)) in
            rw (← w, ← v.said, ← v.fit.counted, b, ne_eqb o (h.cells + 1) n)

  -- what is seen, and the place after it, are a step
  pub stepped : {a : Res (Option Cell)} {p : ℕ} → a ≡ seen bs k o → p ≡ walked_on o a
      → ◌≡◌ {A = Walked} (record { answer = a; place = p }) (walk bs k o)
  stepped e q = rw (q, e)
