-- What is due, as the levels that are open and the positions that each has left; and that as many cells are due as the extent has.
use Rattle.std.specs.Prelude.{ℕ, zero, suc, ◌+◌, ◌-◌, ◌*◌, ◌≤◌, ◌<◌, ◌≡◌, set, replicate}
use Rattle.std.proofs.Math.Path.{refl, sym, ap, subst}
use Rattle.std.proofs.Common.{ap₂, ◌∙◌, suc-mul, zero-mul, add-one, length-set, get_or-set_other}
use mathlib.Core.List.{List, [], ◌∷◌, ◌++◌, append-nil, append_assoc}
use native.Mathlib.Omega.{arith}
use Rattle.std.proofs.Math.ListN.{length, drop, get_or, drop_of_length-le}
use Rattle.std.proofs.Math.Seq.{drop-cons, get_or-set_same}
use Rattle.paper.specs.declared.Axis.{Axis}
use Rattle.paper.specs.Limits.{most_axes}
use Rattle.paper.specs.Numbers.{concat}
use Rattle.paper.specs.Axes.{width, cells, no_axis}
use Rattle.paper.specs.JsonRead.{Due, opening, closing, cell, due}
use Rattle.json_due.specs.declared.Cursor.{Cursor}
use Rattle.json_due.specs.declared.Wanted.{Wanted}
use Rattle.json_due.specs.declared.Wanted.TheVariants.{Nothing, Opening, Closing, Value}

-- so many levels are open: what is due for the positions left of the innermost, its closing bracket, and so for the levels around it
unfoldable pub remains : List Axis → List ℕ → ℕ → List Due
remains E left zero = []
remains E left (suc k) = concat (replicate (get_or left k 0) (due (drop (suc k) E))) ++ (closing ∷ remains E left k)

unfoldable pub rest_by : List Axis → Wanted → ℕ → List ℕ → List Due
rest_by E Nothing k left = []
rest_by E Opening k left = due (drop k E) ++ remains E left k
rest_by E Closing k left = closing ∷ remains E left (k - 1)
rest_by E Value k left = cell ∷ remains E left k

-- what is due, the next and all after it
abbrev pub rest_of : List Axis → Cursor → List Due
rest_of E c = rest_by E c.wanted c.level c.left

-- the levels fit what is wanted
unfoldable pub StandsBy : List Axis → Wanted → ℕ → Type 0
StandsBy E Nothing k = k ≤ length E
StandsBy E Opening k = k < length E
StandsBy E Closing k = (1 ≤ k) × (k ≤ length E)
StandsBy E Value k = (1 ≤ k) × (k ≤ length E)

pub record Stands (E : List Axis) (c : Cursor) : Type 0 where
  pub levels : StandsBy E c.wanted c.level
  pub six : length c.left ≡ most_axes

-- this is due
pub record Reached (E : List Axis) (c : Cursor) (ds : List Due) : Type 0 where
  pub stands : Stands E c
  pub rest : rest_of E c ≡ ds

-- what was due came, and this is due
unfoldable pub came_by : Wanted → List Due → List Due
came_by Nothing ds = ds
came_by Opening ds = opening ∷ ds
came_by Closing ds = closing ∷ ds
came_by Value ds = cell ∷ ds

pub record Follows (E : List Axis) (c r : Cursor) : Type 0 where
  pub stands : Stands E r
  pub rest : rest_of E c ≡ came_by c.wanted (rest_of E r)

-- the opening bracket of the axis at level k came
pub record Opened (E : List Axis) (k : ℕ) (left : List ℕ) (r : Cursor) : Type 0 where
  pub stands : Stands E r
  pub rest : due (drop k E) ++ remains E left k ≡ opening ∷ rest_of E r

-- ---- levels further in don't count

pub remains-set : (E : List Axis) (left : List ℕ) (j w k : ℕ) → k ≤ j → remains E (set left j w) k ≡ remains E left k
unfolding remains
remains-set E left j w zero h = refl
remains-set E left j w (suc k) h =
    let e : get_or (set left j w) k 0 ≡ get_or left k 0 = get_or-set_other left j k w 0 (λ q. omega arith) in
    rw (e, remains-set E left j w k (omega arith)) refl

-- ---- the first position of the innermost level

concat-more : (n : ℕ) (D R : List Due) → concat (replicate (suc n) D) ++ R ≡ D ++ (concat (replicate n D) ++ R)
unfolding concat
concat-more n D R = append_assoc D (concat (replicate n D)) R

-- level k + 1 is open, with n positions left
module _ (E : List Axis) (left : List ℕ) (k : ℕ) where
  pub level-closed : get_or left k 0 ≡ 0 → remains E left (suc k) ≡ closing ∷ remains E left k
  unfolding remains concat
  level-closed e = rw e refl

  pub level-position : (n : ℕ) → k < length left → get_or left k 0 ≡ suc n
      → remains E left (suc k) ≡ due (drop (suc k) E) ++ remains E (set left k n) (suc k)
  unfolding remains
  level-position n h e =
      let f : get_or (set left k n) k 0 ≡ n = get_or-set_same left k n 0 h in
      rw (e, f, remains-set E left k n k (omega arith)) (concat-more n (due (drop (suc k) E)) (closing ∷ remains E left k))

  pub level-opened : (a : Axis) (F : List Axis) (w : ℕ) → k < length left → drop k E ≡ a ∷ F → drop (suc k) E ≡ F → w ≡ width a
      → due (drop k E) ++ remains E left k ≡ opening ∷ remains E (set left k w) (suc k)
  unfolding remains due
  level-opened a F w h e f q =
      let g : get_or (set left k w) k 0 ≡ w = get_or-set_same left k w 0 h in
      rw (e, f, g, remains-set E left k w k (omega arith), q)
      (ap (λ (l : List Due). opening ∷ l) (append_assoc (concat (replicate (width a) (due F))) (closing ∷ []) (remains E left k)))

-- ---- how many cells are due

unfoldable pub cells_due : List Due → ℕ
cells_due [] = 0
cells_due (opening ∷ ds) = cells_due ds
cells_due (closing ∷ ds) = cells_due ds
cells_due (cell ∷ ds) = suc (cells_due ds)

due-append : (ds es : List Due) → cells_due (ds ++ es) ≡ cells_due ds + cells_due es
unfolding cells_due
due-append [] es = let e : 0 + cells_due es ≡ cells_due es = omega arith in sym e
due-append (opening ∷ ds) es = due-append ds es
due-append (closing ∷ ds) es = due-append ds es
due-append (cell ∷ ds) es =
    let e : suc (cells_due ds) + cells_due es ≡ suc (cells_due ds + cells_due es) = omega arith in
    ap suc (due-append ds es) ∙ sym e

due-times : (n : ℕ) (D : List Due) → cells_due (concat (replicate n D)) ≡ n * cells_due D
unfolding cells_due concat
due-times zero D = sym (zero-mul (cells_due D))
due-times (suc n) D =
    let e = due-append D (concat (replicate n D)) in
    let f = due-times n D in
    let g = suc-mul n (cells_due D) in
    omega arith

pub due-cells : (E : List Axis) → cells_due (due E) ≡ cells E
unfolding cells_due due cells
due-cells [] = refl
due-cells (a ∷ E) =
    let e = due-append (concat (replicate (width a) (due E))) (closing ∷ []) in
    let f = due-times (width a) (due E) in
    let g : width a * cells_due (due E) ≡ width a * cells E = ap (λ (n : ℕ). width a * n) (due-cells E) in
    let z : cells_due (closing ∷ []) ≡ 0 = refl in
    omega arith

-- ---- what is due next

abbrev pub cursor : Wanted → ℕ → List ℕ → Cursor
cursor x k left = record { wanted = x; level = k; left = left }

-- before the value all of it is due
abbrev pub first_due : Cursor
first_due = cursor Opening 0 (replicate most_axes 0)

pub first-reached : (E : List Axis) → 1 ≤ length E → Reached E first_due (due E)
unfolding StandsBy rest_by remains
first-reached E h = record { stands = record { levels = omega arith; six = refl }; rest = append-nil (due E) }

module _ (E : List Axis) (left : List ℕ) (six : length left ≡ most_axes) where
  pub next-nothing : (k : ℕ) → k ≡ 0 → Reached E (cursor Nothing k left) (remains E left k)
  unfolding StandsBy rest_by remains
  next-nothing k e = record { stands = record { levels = omega arith; six = six }; rest = rw e refl }

  module _ (k : ℕ) (some : k ≡ 0 → ⊥) (most : k ≤ length E) where
    one_in : k ≡ suc (k - 1)
    one_in = omega arith

    pub next-closing : get_or left (k - 1) 0 ≡ 0 → Reached E (cursor Closing k left) (remains E left k)
    unfolding StandsBy rest_by
    next-closing e =
        record {
          stands = record { levels = (omega arith, most); six = six };
          rest = sym (ap (remains E left) one_in ∙ level-closed E left (k - 1) e);
        }

    module _ (n : ℕ) (e : get_or left (k - 1) 0 ≡ n) (m : n ≡ 0
        → ⊥) (less : List ℕ) (q : less ≡ set left (k - 1) (n - 1)) (h : k - 1 < length left) where
      less-six : length less ≡ most_axes
      less-six = ap length q ∙ (length-set left (k - 1) (n - 1) ∙ six)

      position : remains E left k ≡ due (drop k E) ++ remains E less k
      position =
          let p : n ≡ suc (n - 1) = omega arith in
          ap (remains E left) one_in ∙ level-position E left (k - 1) (n - 1) h (e ∙ p)
          ∙ ap₂ (λ (j : ℕ) (l : List ℕ). due (drop j E) ++ remains E l j) (sym one_in) (sym q)

      pub next-value : length E ≡ k → Reached E (cursor Value k less) (remains E left k)
      unfolding StandsBy rest_by due
      next-value f =
          let d : drop k E ≡ [] = drop_of_length-le E {i = k} (omega arith) in
          record {
            stands = record { levels = (omega arith, most); six = less-six };
            rest = sym (position ∙ rw d refl);
          }

      pub next-opening : (length E ≡ k → ⊥) → Reached E (cursor Opening k less) (remains E left k)
      unfolding StandsBy rest_by
      next-opening f = record { stands = record { levels = omega arith; six = less-six }; rest = sym position }

-- ---- an axis opened

pub opened-so : (E : List Axis) (k : ℕ) (left wide : List ℕ) (a : Axis) (w : ℕ) (r : Cursor) → length left ≡ most_axes → k < length left
    → k < length E
    → a ≡ get_or E k no_axis → w ≡ width a → wide ≡ set left k w → Reached E r (remains E wide (k + 1)) → Opened E k left r
opened-so E k left wide a w r six h j ea ew eq v =
    let d : drop k E ≡ a ∷ drop (suc k) E = drop-cons E k no_axis j ∙ ap (λ (x : Axis). x ∷ drop (suc k) E) (sym ea) in
    record {
      stands = v.stands;
      rest =
          level-opened E left k a (drop (suc k) E) w h d refl ew
          ∙ ap (λ (l : List Due). opening ∷ l)
          (ap₂ (λ (l : List ℕ) (n : ℕ). remains E l n) (sym eq) (sym (add-one k)) ∙ sym v.rest);
    }

-- ---- what was due came

follows_by : (E : List Axis) (c r : Cursor) (x : Wanted) → c.wanted ≡ x → Stands E r
    → rest_by E x c.level c.left ≡ came_by x (rest_of E r) → Follows E c r
follows_by E c r x e s q =
    record {
      stands = s;
      rest = ap (λ (y : Wanted). rest_by E y c.level c.left) e ∙ q ∙ ap (λ (y : Wanted). came_by y (rest_of E r)) (sym e);
    }

module _ (E : List Axis) (c : Cursor) where
  pub follows_nothing : c.wanted ≡ Nothing → Stands E c → Follows E c c
  unfolding rest_by came_by
  follows_nothing e s = follows_by E c c Nothing e s (sym (ap (λ (y : Wanted). rest_by E y c.level c.left) e))

  pub follows-opening : c.wanted ≡ Opening → (r : Cursor) → Opened E c.level c.left r → Follows E c r
  unfolding rest_by came_by
  follows-opening e r v = follows_by E c r Opening e v.stands v.rest

  pub follows-closing : c.wanted ≡ Closing → (r : Cursor) → Reached E r (remains E c.left (c.level - 1)) → Follows E c r
  unfolding rest_by came_by
  follows-closing e r v = follows_by E c r Closing e v.stands (ap (λ (l : List Due). closing ∷ l) (sym v.rest))

  pub follows-value : c.wanted ≡ Value → (r : Cursor) → Reached E r (remains E c.left c.level) → Follows E c r
  unfolding rest_by came_by
  follows-value e r v = follows_by E c r Value e v.stands (ap (λ (l : List Due). cell ∷ l) (sym v.rest))

  module _ (s : Stands E c) where
    pub stands-opening : c.wanted ≡ Opening → c.level < length E
    unfolding StandsBy
    stands-opening e = by-wanted e s.levels
      where
        by-wanted : c.wanted ≡ Opening → StandsBy E c.wanted c.level → c.level < length E
        by-wanted q l = subst (λ (y : Wanted). StandsBy E y c.level) q l

    pub stands-closing : c.wanted ≡ Closing → (1 ≤ c.level) × (c.level ≤ length E)
    unfolding StandsBy
    stands-closing e = subst (λ (y : Wanted). StandsBy E y c.level) e s.levels

    pub stands-value : c.wanted ≡ Value → (1 ≤ c.level) × (c.level ≤ length E)
    unfolding StandsBy
    stands-value e = subst (λ (y : Wanted). StandsBy E y c.level) e s.levels

    -- ---- the next of what is due

    pub rest-opening : c.wanted ≡ Opening → (ds : List Due) × (rest_of E c ≡ opening ∷ ds)
    unfolding rest_by due
    rest-opening e =
        let d : drop c.level E ≡ get_or E c.level no_axis ∷ drop (suc c.level) E = drop-cons E c.level no_axis
        (stands-opening e) in (
          _,
          ap (λ (y : Wanted). rest_by E y c.level c.left) e
              ∙ ap (λ (l : List Axis). due l ++ remains E c.left c.level) d,
        )

    pub rest-closing : c.wanted ≡ Closing → (ds : List Due) × (rest_of E c ≡ closing ∷ ds)
    unfolding rest_by
    rest-closing e = (_, ap (λ (y : Wanted). rest_by E y c.level c.left) e)

    pub rest-value : c.wanted ≡ Value → (ds : List Due) × (rest_of E c ≡ cell ∷ ds)
    unfolding rest_by
    rest-value e = (_, ap (λ (y : Wanted). rest_by E y c.level c.left) e)

    pub rest-nothing : c.wanted ≡ Nothing → rest_of E c ≡ []
    unfolding rest_by
    rest-nothing e = ap (λ (y : Wanted). rest_by E y c.level c.left) e
