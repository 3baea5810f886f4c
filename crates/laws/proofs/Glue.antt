-- Two arrays glued along an axis. The glued array goes in blocks, one for each coordinate of the axes before: a block of the first
-- array, then the same block of the second, where a block is the cells of the gluing axis and the axes after it.
use Rattle.std.specs.Prelude.{ℕ, ◌+◌, ◌-◌, ◌*◌, ◌/◌, ◌%◌, ◌≤◌, ◌<◌, ◌≡◌, Bool, get_or, take, drop, if◌then◌else◌}
use Rattle.std.proofs.Math.Path.{refl, sym, ap, ap₂}
use Rattle.std.proofs.Common.{subst, ◌∙◌, mod-lt, div-lt_iff_lt-mul, mul-add}
use Rattle.std.proofs.Math.Bool.{true, false}
use mathlib.Core.List.{List, ◌∷◌, ◌++◌}
use Rattle.std.proofs.Math.Nat.{div-add-mod', add-mul, add-mul-div_right, add-mul-mod_self_right}
use native.Mathlib.Omega.{arith}
use borrow.Author.Tests.{leb-true, leb-false, ltb-true, ltb-false, le-leb, lt-leb}
use Rattle.std.proofs.Math.Dec.{leb, ltb}
use Rattle.std.proofs.Math.ListN.{length, length-append}
use Rattle.std.proofs.Math.Seq.{get_or_at}
use Rattle.paper.specs.declared.Name.{Name}
use Rattle.paper.specs.declared.Axis.{Axis}
use Rattle.paper.specs.declared.Cell.TheVariants.{Empty}
use Rattle.paper.specs.declared.Cell.{Cell}
use Rattle.paper.specs.declared.Move.TheVariants.{Glue}
use Rattle.paper.specs.declared.Operation.TheVariants.{Moves}
use Rattle.paper.specs.Axes.{width, cells, offset, at_offset, axis_at, without, put_in, Array}
use Rattle.paper.specs.Recipe.{glued}
use Rattle.paper.specs.Values.{Whence, from_a, from_b, in_first, in_second, taken}
use Rattle.laws.specs.Places.{Inside, right-pos, offset-at_offset, at_offset-inside, inside-length}
use Rattle.laws.specs.Limits.{Sound, sound-drop, sound-at, cells-pos}
use Rattle.laws.specs.Alike.{SameLimits, alike-back, alike-append, alike-split, cells-alike, alike-inside, offset-alike}
use Rattle.laws.specs.Agreeing.{Agree, glue-many, glue-limits}
use Rattle.laws.specs.Joins.{cells-append, offset-append, at_offset-append, axes-at, drop-index, length_before, without_at, put_in-at, inside-put_in, inside-axis, inside-without, inside-again}
use Rattle.laws.specs.Arrays.{at-inside}
use Rattle.laws.specs.Glue.{glued_axis, turn, in_turn, by_turns, block_cells}

pub block-pos : (k : ℕ) (E : List Axis) → Sound E → 1 ≤ block_cells k E
block-pos k E s = cells-pos (drop (k - 1) E) (sound-drop E (k - 1) s)

-- ---- any axes before and after

module _ (pre post : List Axis) (a b : Axis) (ha : a.lo ≤ a.hi) where
  pub cells-glued_axis : cells (glued_axis a b ∷ post) ≡ cells (a ∷ post) + cells (b ∷ post)
  unfolding cells
  cells-glued_axis =
      let e : width (glued_axis a b) ≡ width a + width b = omega arith in
      ap (λ (n : ℕ). n * cells post) e ∙ add-mul (width a) (width b) (cells post)

  module _ (j : ℕ) (h : j < cells (pre ++ glued_axis a b ∷ post)) where
    -- the blocks before that of cell j, and its place in its block
    abbrev block : ℕ
    block = turn (cells (a ∷ post)) (cells (b ∷ post)) j

    abbrev in_block : ℕ
    in_block = in_turn (cells (a ∷ post)) (cells (b ∷ post)) j

    all-cells : j < cells pre * (cells (a ∷ post) + cells (b ∷ post))
    all-cells = omega (arith, cells-append pre (glued_axis a b ∷ post), ap (λ (n : ℕ). cells pre * n) cells-glued_axis)

    rest-pos : 0 < cells post
    unfolding cells
    rest-pos =
        let z = right-pos (cells pre) (cells (glued_axis a b ∷ post)) j (omega (arith, cells-append pre (glued_axis a b ∷ post))) in
        right-pos (width (glued_axis a b)) (cells post) 0 z

    block-lt : block < cells pre
    block-lt =
        let z = right-pos (cells pre) (cells (a ∷ post) + cells (b ∷ post)) j all-cells in
        (div-lt_iff_lt-mul {x = j} {y = cells pre} z).1 all-cells

    -- the coordinate of cell j
    pub at_offset-glued : at_offset (pre ++ glued_axis a b ∷ post) j
        ≡ at_offset pre block ++ (a.lo + in_block / cells post) ∷ at_offset post (in_block % cells post)
    unfolding at_offset
    at_offset-glued =
        at_offset-append pre (glued_axis a b ∷ post) j h
        ∙ ap (λ (n : ℕ). at_offset pre (j / n) ++ at_offset (glued_axis a b ∷ post) (j % n)) cells-glued_axis

    front_length : length (at_offset pre block) ≡ length pre
    front_length = inside-length pre (at_offset pre block) (at_offset-inside pre block block-lt)

    -- which cell of an array with the axis d in the place of the gluing axis has a coordinate that is n into that block
    cell-of : (d : Axis) (n : ℕ) → offset (pre ++ d ∷ post)
        (at_offset pre block ++ (d.lo + n / cells post) ∷ at_offset post (n % cells post)) ≡ block * cells (d ∷ post) + n
    unfolding offset
    cell-of d n =
        let e : d.lo + n / cells post - d.lo ≡ n / cells post = omega arith in
        offset-append pre (d ∷ post) (at_offset pre block) ((d.lo + n / cells post) ∷ at_offset post (n % cells post)) front_length
        ∙ ap₂ (λ (x y : ℕ). x * cells (d ∷ post) + y) (offset-at_offset pre block block-lt)
        (ap₂ (λ (x y : ℕ). x * cells post + y) e (offset-at_offset post (n % cells post) (mod-lt n rest-pos)) ∙ div-add-mod' n (cells post))

    -- on the first side: the position is one of a's, and this is the cell of a's array
    pub left-position : in_block < cells (a ∷ post) → a.lo + in_block / cells post ≤ a.hi
    unfolding cells
    left-position l = omega (arith, (div-lt_iff_lt-mul {x = in_block} {y = width a} rest-pos).1 l)

    pub left-cell : offset (pre ++ a ∷ post) (at_offset (pre ++ glued_axis a b ∷ post) j) ≡ block * cells (a ∷ post) + in_block
    left-cell = ap (offset (pre ++ a ∷ post)) at_offset-glued ∙ cell-of a in_block

    -- on the second: the position lies past a's, and with it counted from b's lower limit this is the cell of b's array
    pub right-position : cells (a ∷ post) ≤ in_block → a.lo + in_block / cells post ≡ a.hi + 1 + (in_block - cells (a ∷ post)) / cells post
    unfolding cells
    right-position l =
        let e : in_block ≡ in_block - cells (a ∷ post) + width a * cells post = omega arith in
        let d = ap (λ (n : ℕ). n / cells post) e ∙ add-mul-div_right (in_block - cells (a ∷ post)) (width a) rest-pos in
        omega (arith, d)

    pub right-rest : cells (a ∷ post) ≤ in_block → in_block % cells post ≡ (in_block - cells (a ∷ post)) % cells post
    unfolding cells
    right-rest l =
        let e : in_block ≡ in_block - cells (a ∷ post) + width a * cells post = omega arith in
        ap (λ (n : ℕ). n % cells post) e ∙ add-mul-mod_self_right (in_block - cells (a ∷ post)) (width a) (cells post)

    pub right-cell : cells (a ∷ post) ≤ in_block
        → offset (pre ++ b ∷ post) (at_offset pre block ++ (a.lo + in_block / cells post - (a.hi + 1) + b.lo) ∷ at_offset post (in_block % cells post))
        ≡ block * cells (b ∷ post) + (in_block - cells (a ∷ post))
    right-cell l =
        let x : a.lo + in_block / cells post - (a.hi + 1) + b.lo ≡ b.lo + (in_block - cells (a ∷ post)) / cells post = omega (arith, right-position l) in
        ap₂ (λ (y n : ℕ). offset (pre ++ b ∷ post) (at_offset pre block ++ y ∷ at_offset post n)) x (right-rest l) ∙ cell-of b (in_block - cells (a ∷ post))

-- ---- the paper's glued extent, by the index of the gluing axis

-- what the tests of a gluing step say of its two extents
pub record Gluable (k : ℕ) (E F : List Axis) : Type 0 where
  pub one : 1 ≤ k
  pub first : k ≤ length E
  pub second : k ≤ length F
  pub same : SameLimits (without k E) (without k F)
  pub sound : Sound E

pub gluable : (k : ℕ) (M N : List Name) (E F : List Axis) → 1 ≤ k → k ≤ length E → Sound E → Agree (Moves Glue) k M E N F
    → Gluable k E F
gluable k M N E F one last s e =
    let l = glue-many k M E N F e in
    record {
      one = one;
      first = last;
      second = omega arith;
      same = glue-limits k M E N F one e;
      sound = s;
    }

module _ (k : ℕ) (E F : List Axis) (g : Gluable k E F) where
  abbrev pre : List Axis
  pre = take (k - 1) E

  abbrev post : List Axis
  post = drop k E

  abbrev a : Axis
  a = axis_at k E

  abbrev b : Axis
  b = axis_at k F

  length-pre : length pre ≡ k - 1
  length-pre = let l = g.first in length_before k E (omega arith)

  full : a.lo ≤ a.hi
  full = let l = g.first in (sound-at E (k - 1) _ g.sound (omega arith)).0

  -- the second array has the first's limits but on the gluing axis
  same_parts : SameLimits (take (k - 1) F) pre × SameLimits (drop k F) post
  same_parts =
      let l = g.second in
      let e : length (take (k - 1) F) ≡ length pre = length_before k F (omega arith) ∙ sym length-pre in
      alike-split (take (k - 1) F) pre (drop k F) post e (alike-back (without k E) (without k F) g.same)

  second_alike : SameLimits F (pre ++ b ∷ post)
  second_alike =
      let r = alike-append (take (k - 1) F) pre (b ∷ drop k F) (b ∷ post) same_parts.0 (refl, refl, same_parts.1) in
      subst (λ (G : List Axis). SameLimits G (pre ++ b ∷ post)) (sym (axes-at k F g.one g.second)) r

  -- the cells of a block of each
  first_block : block_cells k E ≡ cells (a ∷ post)
  first_block = ap cells (drop-index k E _ g.one g.first)

  second_block : block_cells k F ≡ cells (b ∷ post)
  second_block = ap cells (drop-index k F _ g.one g.second) ∙ cells-alike (b ∷ drop k F) (b ∷ post) (refl, refl, same_parts.1)

  pub cells-first : cells E ≡ cells pre * block_cells k E
  cells-first = rw first_block (ap cells (axes-at k E g.one g.first) ∙ cells-append pre (a ∷ post))

  pub cells-second : cells F ≡ cells pre * block_cells k F
  cells-second = rw second_block (cells-alike F (pre ++ b ∷ post) second_alike ∙ cells-append pre (b ∷ post))

  pub cells-blocks : cells (glued k E F) ≡ cells pre * (block_cells k E + block_cells k F)
  unfolding glued
  cells-blocks = rw (first_block, second_block) (cells-append pre (glued_axis a b ∷ post) ∙ ap (λ (n : ℕ). cells pre * n) (cells-glued_axis pre post a b full))

  pub cells-glued : cells (glued k E F) ≡ cells E + cells F
  cells-glued = omega (arith, cells-blocks, mul-add (cells pre) (block_cells k E) (block_cells k F), cells-first, cells-second)

  -- only the gluing axis changes
  pub length-glued : length (glued k E F) ≡ length E
  unfolding glued
  length-glued =
      length-append pre (glued_axis a b ∷ post)
      ∙ sym (length-append pre (a ∷ post))
      ∙ sym (ap length (axes-at k E g.one g.first))

  pub without-glued : without k (glued k E F) ≡ without k E
  unfolding glued
  without-glued = without_at k pre (glued_axis a b) post g.one length-pre

  pub axis_at-glued : axis_at k (glued k E F) ≡ glued_axis a b
  unfolding glued
  axis_at-glued = get_or_at pre (glued_axis a b) post _ (k - 1) length-pre

  -- ---- coordinates of the glued extent: up to a's upper limit the first's, past it the second's

  in-glued : k ≤ length (glued k E F)
  in-glued = let l = g.first in omega (arith, length-glued)

  module _ (p : List ℕ) (h : Inside (glued k E F) p) where
    rest : Inside (without k E) (without k p)
    rest = subst (λ (G : List Axis). Inside G (without k p)) without-glued (inside-without k (glued k E F) g.one in-glued p h)

    position : (a.lo ≤ get_or p (k - 1) 0) × (get_or p (k - 1) 0 ≤ a.hi + width b)
    position = subst (λ (c : Axis). (c.lo ≤ get_or p (k - 1) 0) × (get_or p (k - 1) 0 ≤ c.hi)) axis_at-glued (inside-axis k (glued k E F) g.one in-glued p h)

    pub glued-first : get_or p (k - 1) 0 ≤ a.hi → Inside E p
    glued-first l =
        subst (λ (q : List ℕ). Inside E q) (inside-again k (glued k E F) g.one in-glued p h)
        (inside-put_in k E g.one g.first (get_or p (k - 1) 0) (without k p) rest position.0 l)

    pub glued-second : a.hi < get_or p (k - 1) 0 → Inside F (put_in k (get_or p (k - 1) 0 - (a.hi + 1) + b.lo) (without k p))
    glued-second l =
        let r = position in
        inside-put_in k F g.one g.second (get_or p (k - 1) 0 - (a.hi + 1) + b.lo) (without k p) (alike-inside (without k E) (without k F) (without k p) g.same rest) (omega arith) (omega arith)

  -- ---- which cell of which array cell j is, by the cells of a block of each

  module _ (j : ℕ) (h : j < cells (glued k E F)) where
    abbrev wa : ℕ
    wa = block_cells k E

    abbrev wb : ℕ
    wb = block_cells k F

    abbrev front : List ℕ
    front = at_offset pre (turn wa wb j)

    abbrev behind : List ℕ
    behind = at_offset post (in_turn wa wb j % cells post)

    length-of-front : length front ≡ k - 1
    unfolding glued
    length-of-front = rw (first_block, second_block) (front_length pre post a b full j h ∙ length-pre)

    coordinate-glued : at_offset (glued k E F) j ≡ front ++ (a.lo + in_turn wa wb j / cells post) ∷ behind
    unfolding glued
    coordinate-glued = rw (first_block, second_block) (at_offset-glued pre post a b full j h)

    position-glued : get_or (at_offset (glued k E F) j) (k - 1) 0 ≡ a.lo + in_turn wa wb j / cells post
    position-glued = ap (λ (p : List ℕ). get_or p (k - 1) 0) coordinate-glued ∙ get_or_at front (a.lo + in_turn wa wb j / cells post) behind 0 (k - 1) length-of-front

    pub glued-side : leb (get_or (at_offset (glued k E F) j) (k - 1) 0) a.hi ≡ ltb (in_turn wa wb j) wa
    unfolding glued
    glued-side = by (ltb (in_turn wa wb j) wa) refl
      where
        by : (t : Bool) → ltb (in_turn wa wb j) wa ≡ t → leb (get_or (at_offset (glued k E F) j) (k - 1) 0) a.hi ≡ t
        by true e =
            let l : in_turn (cells (a ∷ post)) (cells (b ∷ post)) j < cells (a ∷ post) = rw (first_block, second_block) at (ltb-true (in_turn wa wb j) wa e) in
            let q : a.lo + in_turn wa wb j / cells post ≤ a.hi = rw (first_block, second_block) (left-position pre post a b full j h l) in
            ap (λ (x : ℕ). leb x a.hi) position-glued ∙ le-leb _ _ q
        by false e =
            let l : cells (a ∷ post) ≤ in_turn (cells (a ∷ post)) (cells (b ∷ post)) j = rw (first_block, second_block) at (ltb-false (in_turn wa wb j) wa e) in
            let q : a.hi < a.lo + in_turn wa wb j / cells post = rw (first_block, second_block) (omega (arith, right-position pre post a b full j h l)) in
            ap (λ (x : ℕ). leb x a.hi) position-glued ∙ lt-leb _ _ q

    pub glued-left : offset E (at_offset (glued k E F) j) ≡ turn wa wb j * wa + in_turn wa wb j
    unfolding glued
    glued-left =
        let e : offset (pre ++ a ∷ post) (at_offset (glued k E F) j) ≡ turn wa wb j * wa + in_turn wa wb j = rw (first_block, second_block) (left-cell pre post a b full j h) in
        ap (λ (G : List Axis). offset G (at_offset (glued k E F) j)) (axes-at k E g.one g.first) ∙ e

    pub glued-right : wa ≤ in_turn wa wb j
        → offset F (put_in k (get_or (at_offset (glued k E F) j) (k - 1) 0 - (a.hi + 1) + b.lo) (without k (at_offset (glued k E F) j))) ≡ turn wa wb j * wb + (in_turn wa wb j - wa)
    unfolding glued
    glued-right l =
        let m : cells (a ∷ post) ≤ in_turn (cells (a ∷ post)) (cells (b ∷ post)) j = rw (first_block, second_block) at l in
        let x = a.lo + in_turn wa wb j / cells post in
        let e : without k (at_offset (glued k E F) j) ≡ front ++ behind = ap (without k) coordinate-glued ∙ without_at k front x behind g.one length-of-front in
        let c : offset (pre ++ b ∷ post) (front ++ (x - (a.hi + 1) + b.lo) ∷ behind) ≡ turn wa wb j * wb + (in_turn wa wb j - wa) = rw (first_block, second_block) (right-cell pre post a b full j h m) in
        ap₂ (λ (y : ℕ) (q : List ℕ). offset F (put_in k (y - (a.hi + 1) + b.lo) q)) position-glued e
        ∙ ap (offset F) (put_in-at k front (x - (a.hi + 1) + b.lo) behind g.one length-of-front)
        ∙ offset-alike F (pre ++ b ∷ post) _ second_alike
        ∙ c

-- ---- the paper's glued cell

-- where it comes from
abbrev pub glued_from : ℕ → List Axis → List Axis → List ℕ → Whence
glued_from k E F p = if in_first k E p then from_a p else from_b (in_second k E F p)

abbrev pub glued_cell : ℕ → Array → Array → List ℕ → Cell
glued_cell k A B p = taken A B (glued_from k A.shape.axes B.shape.axes p)

module _ (k : ℕ) (A B : Array) (g : Gluable k A.shape.axes B.shape.axes) where
  abbrev E : List Axis
  E = A.shape.axes

  abbrev F : List Axis
  F = B.shape.axes

  -- at a coordinate of the glued extent
  module _ (p : List ℕ) (h : Inside (glued k E F) p) where
    pub glued_cell-first : get_or p (k - 1) 0 ≤ (axis_at k E).hi → glued_cell k A B p ≡ get_or A.cells (offset E p) Empty
    unfolding taken
    glued_cell-first l =
        ap (λ (t : Bool). taken A B (if t then from_a p else from_b (in_second k E F p))) (le-leb _ _ l)
        ∙ at-inside A p (glued-first k E F g p h l)

    pub glued_cell-second : (axis_at k E).hi < get_or p (k - 1) 0
        → glued_cell k A B p ≡ get_or B.cells (offset F (in_second k E F p)) Empty
    unfolding taken
    glued_cell-second l =
        ap (λ (t : Bool). taken A B (if t then from_a p else from_b (in_second k E F p))) (lt-leb _ _ l)
        ∙ at-inside B (in_second k E F p) (glued-second k E F g p h l)

  -- cell j of the glued array: a block of A and a block of B in turn
  pub glued_cell-at : (j : ℕ) → j < cells (glued k E F)
      → glued_cell k A B (at_offset (glued k E F) j) ≡ by_turns Empty (block_cells k E) (block_cells k F) A.cells B.cells j
  glued_cell-at j h = by (ltb (in_turn wa wb j) wa) refl
    where
      wa : ℕ
      wa = block_cells k E

      wb : ℕ
      wb = block_cells k F

      p : List ℕ
      p = at_offset (glued k E F) j

      by : (t : Bool) → ltb (in_turn wa wb j) wa ≡ t
          → glued_cell k A B p ≡ (if t then get_or A.cells (turn wa wb j * wa + in_turn wa wb j) Empty else get_or B.cells (turn wa wb j * wb + (in_turn wa wb j - wa)) Empty)
      by true e =
          glued_cell-first p (at_offset-inside (glued k E F) j h) (leb-true _ _ (glued-side k E F g j h ∙ e))
          ∙ ap (λ (n : ℕ). get_or A.cells n Empty) (glued-left k E F g j h)
      by false e =
          glued_cell-second p (at_offset-inside (glued k E F) j h) (leb-false _ _ (glued-side k E F g j h ∙ e))
          ∙ ap (λ (n : ℕ). get_or B.cells n Empty) (glued-right k E F g j h (ltb-false (in_turn wa wb j) wa e))
