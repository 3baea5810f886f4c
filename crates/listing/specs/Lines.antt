-- A line of cells, one after the other on the last axis: on it a coordinate differs from the next in its last position alone, by one.
-- So a coordinate that was found serves all cells up to the line's end.
use Rattle.std.specs.Prelude.{ℕ, zero, suc, ◌+◌, ◌-◌, ◌*◌, ◌≤◌, ◌<◌, ◌≡◌, refl, List, [], ◌∷◌, ◌++◌, length, get_or, take}
use Rattle.std.proofs.Common.{sym, ap, ap₂, ◌∙◌, arith, take-take, get_or-take}
use Rattle.paper.specs.declared.Axis.{Axis}
use Rattle.paper.specs.Limits.{reach, most_axes}
use Rattle.paper.specs.Axes.{cells, no_axis, axis_at, offset, ordinality, at_offset, coordinate}
use Rattle.laws.specs.Joins.{inside-axis}
use Rattle.laws.specs.Places.{Inside, coordinate-ordinality, offset-at_offset}
use Rattle.laws.proofs.Places.{coordinate-inside}

-- the positions of p on the axes before the last, and x on the last
unfoldable pub with_last : ℕ → List ℕ → ℕ → List ℕ
with_last zero p x = []
with_last (suc r) p x = take r p ++ (x ∷ [])

pub with-last : (r : ℕ) (p : List ℕ) (x : ℕ) → 1 ≤ r → with_last r p x ≡ take (r - 1) p ++ (x ∷ [])
unfolding with_last
with-last zero p x h = absurd (omega arith)
with-last (suc r) p x h = let f : r ≡ suc r - 1 = omega arith in ap (λ (j : ℕ). take j p ++ (x ∷ [])) f

pub with_none : (r : ℕ) (p : List ℕ) (x : ℕ) → r ≡ 0 → with_last r p x ≡ []
unfolding with_last
with_none zero p x e = refl
with_none (suc r) p x e = absurd (omega arith)

-- ---- the law: d cells further on the line

-- the last position raised by d
abbrev raised : List Axis → List ℕ → ℕ → List ℕ
raised E q d = take (length E) q ++ ((get_or q (length E) 0 + d) ∷ [])

raised-inside : (a : Axis) (E : List Axis) (q : List ℕ) (d : ℕ) → Inside (a ∷ E) q
    → get_or q (length E) 0 + d ≤ (get_or (a ∷ E) (length E) no_axis).hi → Inside (a ∷ E) (raised E q d)
raised-inside a E [] d h b = absurd h
raised-inside a [] (x ∷ []) d h b = (omega arith, omega arith, tt)
raised-inside a [] (x ∷ y ∷ q) d h b = absurd h.2
raised-inside a (c ∷ E) (x ∷ q) d h b = (h.0, h.1, raised-inside c E q d h.2 b)

raised-offset : (a : Axis) (E : List Axis) (q : List ℕ) (d : ℕ) → Inside (a ∷ E) q → offset (a ∷ E) (raised E q d) ≡ offset (a ∷ E) q + d
unfolding offset cells
raised-offset a E [] d h = absurd h
raised-offset a [] (x ∷ []) d h = omega arith
raised-offset a [] (x ∷ y ∷ q) d h = absurd h.2
raised-offset a (c ∷ E) (x ∷ q) d h = omega (arith, raised-offset c E q d h.2)

module _ (a : Axis) (E : List Axis) (k d : ℕ) (h : k < cells (a ∷ E)) where
  abbrev q : List ℕ
  q = coordinate (a ∷ E) (k + 1)

  raised-coordinate : get_or (coordinate (a ∷ E) (k + 1)) (length E) 0 + d ≤ (get_or (a ∷ E) (length E) no_axis).hi
      → raised E (coordinate (a ∷ E) (k + 1)) d ≡ coordinate (a ∷ E) (k + d + 1)
  raised-coordinate b =
      let i = coordinate-inside (a ∷ E) (k + 1) (omega arith) (omega arith) in
      let o : ordinality (a ∷ E) (raised E q d) ≡ k + d + 1 =
      omega (arith, raised-offset a E q d i, offset-at_offset (a ∷ E) (k + 1 - 1) (omega arith)) in
      sym (coordinate-ordinality (a ∷ E) (raised E q d) (raised-inside a E q d i b)) ∙ ap (coordinate (a ∷ E)) o

-- p is at cell k, counted from 0, and its last position raised by d is still on the axis
further : (E : List Axis) (r k d x : ℕ) (p : List ℕ) → r ≡ length E → k < cells E → take r p ≡ coordinate E (k + 1)
    → (1 ≤ r → (x ≡ get_or p (r - 1) 0 + d) × (x ≤ (axis_at r E).hi)) → with_last r p x ≡ coordinate E (k + d + 1)
unfolding at_offset
further [] r k d x p l h e f = with_none r p x l
further (a ∷ E) r k d x p l h e f =
    let m : r - 1 ≡ length E = omega arith in
    let t : take (r - 1) p ≡ take (length E) (coordinate (a ∷ E) (k + 1)) =
    sym (take-take (r - 1) r p (omega arith)) ∙ ap₂ (λ (j : ℕ) (u : List ℕ). take j u) m e in
    let g : get_or p (r - 1) 0 ≡ get_or (coordinate (a ∷ E) (k + 1)) (length E) 0 =
    sym (get_or-take r p (r - 1) 0 (omega arith)) ∙ ap₂ (λ (j : ℕ) (u : List ℕ). get_or u j 0) m e in
    let z : x ≡ get_or (coordinate (a ∷ E) (k + 1)) (length E) 0 + d = omega (arith, f (omega arith)) in
    let b : (axis_at r (a ∷ E)).hi ≡ (get_or (a ∷ E) (length E) no_axis).hi = ap (λ (j : ℕ). (get_or (a ∷ E) j no_axis).hi) m in
    with-last r p x (omega arith) ∙ ap₂ (λ (u : List ℕ) (v : ℕ). u ++ (v ∷ [])) t z
    ∙ raised-coordinate a E k d h (omega (arith, f (omega arith)))

-- ---- the line that a loop over the cells is on, of an extent with r axes

-- one past the upper limit of the last axis, at most one past the reach
pub record LineTop (E : List Axis) (r top : ℕ) : Type 0 where
  pub some : 1 ≤ top
  pub few : top ≤ 2 * reach + 1
  pub last : 1 ≤ r → top ≡ (axis_at r E).hi + 1

-- the last position of p is below the top
pub record Below (p : List ℕ) (r top : ℕ) : Type 0 where
  pub few : r ≤ most_axes
  pub some : 1 ≤ top
  pub last : 1 ≤ r → get_or p (r - 1) 0 < top

-- from it on, n cells are left up to the top
pub record Left (p : List ℕ) (r top n : ℕ) : Type 0 where
  pub some : 1 ≤ n
  pub upto : n ≤ top
  pub last : 1 ≤ r → n + get_or p (r - 1) 0 ≡ top

-- p is on the line that ends before cell `end`: from cell k on, the cells' coordinates differ from it in the last position alone
abbrev pub InLine : List Axis → ℕ → ℕ → List ℕ → ℕ → ℕ → Type 0
InLine E r top p end k = (j : ℕ) → k ≤ j → j < end → (end - j ≤ top) × (with_last r p (top - (end - j)) ≡ coordinate E (j + 1))

-- and cell k is on it
abbrev pub OnLine : List Axis → ℕ → ℕ → List ℕ → ℕ → ℕ → Type 0
OnLine E r top p end k = (k < end) × InLine E r top p end k

-- before any is found
pub line-none : (E : List Axis) (r top : ℕ) (p : List ℕ) (k : ℕ) → InLine E r top p 0 k
line-none E r top p k j h b = absurd (omega arith)

-- the same line, where cell k is on it, and at the next cell
module _ (E : List Axis) (r top : ℕ) (p : List ℕ) (end k : ℕ) (v : InLine E r top p end k) (q : List ℕ) (z : ℕ) (e : q ≡ p)
    (f : z ≡ end) where
  pub line-still : k < end → OnLine E r top q z k
  line-still h = rw (e, f) (h, v)

  pub line-more : InLine E r top q z (k + 1)
  line-more = rw (e, f) (λ j h b. v j (omega arith) b)

-- found at cell k
module _ (E : List Axis) (r top : ℕ) (l : r ≡ length E) (t : LineTop E r top) (p : List ℕ) (k : ℕ) (h : k < cells E)
    (e : take r p ≡ coordinate E (k + 1)) where
  pub line-below : r ≤ most_axes → Below p r top
  line-below m =
      record {
        few = m;
        some = t.some;
        last = λ b.
            let g : get_or p (r - 1) 0 ≡ get_or (coordinate E (k + 1)) (r - 1) 0 =
            sym (get_or-take r p (r - 1) 0 (omega arith)) ∙ ap (λ (u : List ℕ). get_or u (r - 1) 0) e in
            omega (
              arith,
              t.last b,
              inside-axis r E b (omega arith) (coordinate E (k + 1))
                  (coordinate-inside E (k + 1) (omega arith) (omega arith)),
            );
      }

  line-left : (n : ℕ) → Left p r top n → InLine E r top p (k + n) k
  line-left n v j g b =
      let x : k + (j - k) + 1 ≡ j + 1 = omega arith in (
        omega (arith, v.upto),
        further E r k (j - k) (top - (k + n - j)) p l h e (λ m. omega (arith, v.last m, t.last m))
            ∙ ap (coordinate E) x,
      )

  pub line-found : (n : ℕ) → Left p r top n → (q : List ℕ) (z : ℕ) → q ≡ p → z ≡ k + n → OnLine E r top q z k
  line-found n v q z c d = rw (c, d) (omega (arith, v.some), line-left n v)
