-- A stretch of a glued array: how many coordinates stay on the side of the first, which is up to the end of its block, and that the
-- cells there are as many cells of that side, one after the other.
use Rattle.std.specs.Prelude.{ℕ, zero, suc, ◌+◌, ◌-◌, ◌*◌, ◌/◌, ◌%◌, ◌≤◌, ◌<◌, ◌≡◌, refl, Bool, true, false, not, List, map, ltb, length, get_or, take, drop, if◌then◌else◌}
use Rattle.std.proofs.Common.{sym, ap, ap₂, ◌∙◌, mod-lt, div-lt_iff_lt-mul, div-add-mod', add-zero, suc-mul, mul-le-mul_right, arith, ltb-true, ltb-false, lt-ltb, le-ltb, length-take, length-drop, ext_get_or, get_or-take, get_or-drop}
use Rattle.std.specs.Bool.{beq}
use Rattle.std.proofs.Math.Arith.{digits_div, digits_mod}
use Rattle.paper.specs.Numbers.{from}
use Rattle.paper.specs.declared.Axis.{Axis}
use Rattle.paper.specs.declared.Cell.TheVariants.{Empty}
use Rattle.paper.specs.Axes.{cells, ordinality, at_offset, coordinate, build, Array}
use Rattle.paper.specs.Recipe.{glued}
use Rattle.paper.specs.Values.{in_first, in_second}
use Rattle.paper.specs.Stretch.{stay}
use Rattle.laws.specs.Places.{right-pos, length-build, get_or-build}
use Rattle.laws.specs.Limits.{Sound}
use Rattle.laws.specs.Glue.{turn, in_turn, by_turns, block_cells}
use Rattle.laws.proofs.Glue.{block-pos, Gluable, cells-first, cells-second, cells-blocks, glued-side, glued-left, glued-right, glued_cell, glued_cell-at}

module _ (w j i : ℕ) where
  -- i further, still in the same turn
  pub same_turn : j % w + i < w → ((j + i) / w ≡ j / w) × ((j + i) % w ≡ j % w + i)
  same_turn h =
      let e : j + i ≡ j / w * w + (j % w + i) = omega (arith, div-add-mod' j w) in
      (ap (λ (n : ℕ). n / w) e ∙ digits_div (j / w) h, ap (λ (n : ℕ). n % w) e ∙ digits_mod (j / w) h)

  -- i further, where the next turn begins
  pub next-turn : 0 < w → j % w + i ≡ w → (j + i) % w ≡ 0
  next-turn z h =
      let e : j + i ≡ suc (j / w) * w + 0 = omega (arith, div-add-mod' j w, suc-mul (j / w) w) in
      ap (λ (n : ℕ). n % w) e ∙ digits_mod (suc (j / w)) z

-- a turn ends where there are whole turns
pub turn-fits : (c w j : ℕ) → j < c * w → j + (w - j % w) ≤ c * w
turn-fits c w j h =
    let z = right-pos c w j h in
    let q = (div-lt_iff_lt-mul {x = j} {y = c} z).1 h in
    omega (arith, div-add-mod' j w, mod-lt j z, suc-mul (j / w) w, mul-le-mul_right w q)

-- ---- the cells of a stretch

module _ {C : Type 0} (d : C) (m n : ℕ) (cs ds : List C) (j i : ℕ) where
  pub turns-left : in_turn m n j + i < m → by_turns d m n cs ds (j + i) ≡ get_or cs (turn m n j * m + in_turn m n j + i) d
  turns-left h =
      let t = same_turn (m + n) j i (omega arith) in
      let l : ltb (in_turn m n (j + i)) m ≡ true = lt-ltb (in_turn m n (j + i)) m (omega (arith, t.1)) in
      let e : turn m n (j + i) * m + in_turn m n (j + i) ≡ turn m n j * m + in_turn m n j + i = omega (arith, ap (λ (x : ℕ). x * m) t.0, t.1) in
      ap₂ (λ (b : Bool) (x : ℕ). if b then get_or cs x d else get_or ds (turn m n (j + i) * n + (in_turn m n (j + i) - m)) d) l e

  pub turns-right : m ≤ in_turn m n j → in_turn m n j + i < m + n
      → by_turns d m n cs ds (j + i) ≡ get_or ds (turn m n j * n + (in_turn m n j - m) + i) d
  turns-right g h =
      let t = same_turn (m + n) j i h in
      let l : ltb (in_turn m n (j + i)) m ≡ false = le-ltb (in_turn m n (j + i)) m (omega (arith, t.1)) in
      let e : turn m n (j + i) * n + (in_turn m n (j + i) - m) ≡ turn m n j * n + (in_turn m n j - m) + i = omega (arith, ap (λ (x : ℕ). x * n) t.0, t.1) in
      ap₂ (λ (b : Bool) (x : ℕ). if b then get_or cs (turn m n (j + i) * m + in_turn m n (j + i)) d else get_or ds x d) l e

-- ---- how many stay

beq-self : (s : Bool) → beq s s ≡ true
beq-self true = refl
beq-self false = refl

beq-not : (s : Bool) → beq s (not s) ≡ false
beq-not true = refl
beq-not false = refl

pub stay-count : (f : List ℕ → Bool) (g : ℕ → List ℕ) (s : Bool) (n j m : ℕ) → m ≤ n → ((i : ℕ) → i < m → f (g (j + i)) ≡ s)
    → (m < n → f (g (j + m)) ≡ not s) → stay s f (map g (from j n)) ≡ m
unfolding stay from
stay-count f g s zero j m b h e = omega arith
stay-count f g s (suc n) j zero b h e =
    let q : f (g j) ≡ not s = ap (λ (x : ℕ). f (g x)) (sym (add-zero j)) ∙ e (omega arith) in
    ap (λ (t : Bool). if beq s t then 1 + stay s f (map g (from (suc j) n)) else 0) q
    ∙ ap (λ (t : Bool). if t then 1 + stay s f (map g (from (suc j) n)) else 0) (beq-not s)
stay-count f g s (suc n) j (suc m) b h e =
    let q : f (g j) ≡ s = ap (λ (x : ℕ). f (g x)) (sym (add-zero j)) ∙ h 0 (omega arith) in
    let up : (i : ℕ) → suc j + i ≡ j + suc i = λ i. omega arith in
    let r = stay-count f g s n (suc j) m (omega arith) (λ i k. ap (λ (x : ℕ). f (g x)) (up i) ∙ h (suc i) (omega arith)) (λ k. ap (λ (x : ℕ). f (g x)) (up m) ∙ e (omega arith)) in
    ap (λ (t : Bool). if beq s t then 1 + stay s f (map g (from (suc j) n)) else 0) q
    ∙ ap (λ (t : Bool). if t then 1 + stay s f (map g (from (suc j) n)) else 0) (beq-self s)
    ∙ omega (arith, r)

-- ---- the paper's stretch

-- the coordinates of an extent from ordinality o on
abbrev pub onward : List Axis → ℕ → List (List ℕ)
onward G o = map (at_offset G) (from (o - 1) (cells G + 1 - o))

module _ (k : ℕ) (E F : List Axis) (g : Gluable k E F) (o : ℕ) (one : 1 ≤ o) (last : o ≤ cells (glued k E F)) where
  abbrev wa : ℕ
  wa = block_cells k E

  abbrev wb : ℕ
  wb = block_cells k F

  -- the turn ends within the array
  room : o - 1 + (wa + wb - in_turn wa wb (o - 1)) ≤ cells (glued k E F)
  room =
      let e = cells-blocks k E F g in
      omega (arith, e, turn-fits (cells (take (k - 1) E)) (wa + wb) (o - 1) (omega (arith, e)))

  -- on which side the coordinate i further lies
  left-side : (i : ℕ) → o - 1 + i < cells (glued k E F) → in_turn wa wb (o - 1 + i) < wa
      → in_first k E (at_offset (glued k E F) (o - 1 + i)) ≡ true
  left-side i h l = glued-side k E F g (o - 1 + i) h ∙ lt-ltb (in_turn wa wb (o - 1 + i)) wa l

  right_side : (i : ℕ) → o - 1 + i < cells (glued k E F) → wa ≤ in_turn wa wb (o - 1 + i)
      → in_first k E (at_offset (glued k E F) (o - 1 + i)) ≡ false
  right_side i h l = glued-side k E F g (o - 1 + i) h ∙ le-ltb (in_turn wa wb (o - 1 + i)) wa l

  pub stay-left : Sound F → in_turn wa wb (o - 1) < wa → stay true (in_first k E) (onward (glued k E F) o) ≡ wa - in_turn wa wb (o - 1)
  stay-left s l =
      let z = block-pos k F s in
      let r = room in
      stay-count (in_first k E) (at_offset (glued k E F)) true (cells (glued k E F) + 1 - o) (o - 1) (wa - in_turn wa wb (o - 1)) (omega arith)
      (λ i b. left-side i (omega arith) (omega (arith, (same_turn (wa + wb) (o - 1) i (omega arith)).1)))
      (λ b. right_side (wa - in_turn wa wb (o - 1)) (omega arith) (omega (arith, (same_turn (wa + wb) (o - 1) (wa - in_turn wa wb (o - 1)) (omega arith)).1)))

  pub stay-right : wa ≤ in_turn wa wb (o - 1) → stay false (in_first k E) (onward (glued k E F) o) ≡ wa + wb - in_turn wa wb (o - 1)
  stay-right l =
      let z = block-pos k E g.sound in
      let r = room in
      let t = mod-lt (o - 1) {m = wa + wb} (omega arith) in
      stay-count (in_first k E) (at_offset (glued k E F)) false (cells (glued k E F) + 1 - o) (o - 1) (wa + wb - in_turn wa wb (o - 1)) (omega arith)
      (λ i b. right_side i (omega arith) (omega (arith, (same_turn (wa + wb) (o - 1) i (omega arith)).1)))
      (λ b. left-side (wa + wb - in_turn wa wb (o - 1)) (omega arith) (omega (arith, next-turn (wa + wb) (o - 1) (wa + wb - in_turn wa wb (o - 1)) (omega arith) (omega arith))))

-- ---- the cells handed out are the glued array's

same-part : {C : Type 0} (d : C) (cs ds : List C) (x y n : ℕ) → x + n ≤ length cs → y + n ≤ length ds
    → ((i : ℕ) → i < n → get_or cs (x + i) d ≡ get_or ds (y + i) d) → take n (drop x cs) ≡ take n (drop y ds)
same-part d cs ds x y n hx hy h =
    let lx : length (take n (drop x cs)) ≡ n = simp (length-take, length-drop) (omega arith) in
    let ly : length (take n (drop y ds)) ≡ n = simp (length-take, length-drop) (omega arith) in
    ext_get_or d (take n (drop x cs)) (take n (drop y ds)) (lx ∙ sym ly) (λ i b.
    let c : i < n = omega arith in
    get_or-take n (drop x cs) i d c ∙ get_or-drop x cs i d ∙ h i c ∙ sym (get_or-drop y ds i d) ∙ sym (get_or-take n (drop y ds) i d c))

module _ (k : ℕ) (A B : Array) (g : Gluable k A.shape.axes B.shape.axes) (sound : Sound B.shape.axes)
    (la : length A.cells ≡ cells A.shape.axes) (lb : length B.cells ≡ cells B.shape.axes)
    (o : ℕ) (one : 1 ≤ o) (last : o ≤ cells (glued k A.shape.axes B.shape.axes)) where
  abbrev E : List Axis
  E = A.shape.axes

  abbrev F : List Axis
  F = B.shape.axes

  abbrev G : List Axis
  G = glued k E F

  abbrev m : ℕ
  m = block_cells k E

  abbrev n : ℕ
  n = block_cells k F

  turn-lt : turn m n (o - 1) < cells (take (k - 1) E)
  turn-lt =
      let e = cells-blocks k E F g in
      let h : o - 1 < cells (take (k - 1) E) * (m + n) = omega (arith, e) in
      (div-lt_iff_lt-mul {x = o - 1} {y = cells (take (k - 1) E)} (right-pos (cells (take (k - 1) E)) (m + n) (o - 1) h)).1 h

  cell : (i : ℕ) → o - 1 + i < cells G → get_or (build G (glued_cell k A B)) (o - 1 + i) Empty
      ≡ by_turns Empty m n A.cells B.cells (o - 1 + i)
  cell i h = get_or-build G (glued_cell k A B) (o - 1 + i) Empty h ∙ glued_cell-at k A B g (o - 1 + i) h

  pub stretch-left : in_first k E (coordinate G o) ≡ true
      → take (stay true (in_first k E) (onward G o)) (drop (ordinality E (coordinate G o) - 1) A.cells) ≡ take (stay true (in_first k E) (onward G o)) (drop (o - 1) (build G (glued_cell k A B)))
  stretch-left t =
      let l = ltb-true (in_turn m n (o - 1)) m (sym (glued-side k E F g (o - 1) (omega arith)) ∙ t) in
      let e = stay-left k E F g o one last sound l in
      let x = glued-left k E F g (o - 1) (omega arith) in
      let r = room k E F g o one last in
      let y : ordinality E (coordinate G o) - 1 + (m - in_turn m n (o - 1)) ≤ length A.cells = omega (arith, x, cells-first k E F g, suc-mul (turn m n (o - 1)) m, mul-le-mul_right m turn-lt) in
      let z : o - 1 + (m - in_turn m n (o - 1)) ≤ length (build G (glued_cell k A B)) = omega (arith, length-build G (glued_cell k A B)) in
      rw e (same-part Empty A.cells (build G (glued_cell k A B)) (ordinality E (coordinate G o) - 1) (o - 1) (m - in_turn m n (o - 1)) y z (λ i b.
      let q : ordinality E (coordinate G o) - 1 + i ≡ turn m n (o - 1) * m + in_turn m n (o - 1) + i = omega (arith, x) in
      ap (λ (w : ℕ). get_or A.cells w Empty) q
      ∙ sym (turns-left Empty m n A.cells B.cells (o - 1) i (omega arith))
      ∙ sym (cell i (omega arith))))

  pub stretch-right : in_first k E (coordinate G o) ≡ false
      → take (stay false (in_first k E) (onward G o)) (drop (ordinality F (in_second k E F (coordinate G o)) - 1) B.cells) ≡ take (stay false (in_first k E) (onward G o)) (drop (o - 1) (build G (glued_cell k A B)))
  stretch-right t =
      let l = ltb-false (in_turn m n (o - 1)) m (sym (glued-side k E F g (o - 1) (omega arith)) ∙ t) in
      let e = stay-right k E F g o one last l in
      let x = glued-right k E F g (o - 1) (omega arith) l in
      let r = room k E F g o one last in
      let f = block-pos k E g.sound in
      let u = mod-lt (o - 1) {m = m + n} (omega arith) in
      let y : ordinality F (in_second k E F (coordinate G o)) - 1 + (m + n - in_turn m n (o - 1)) ≤ length B.cells = omega (arith, x, cells-second k E F g, suc-mul (turn m n (o - 1)) n, mul-le-mul_right n turn-lt) in
      let z : o - 1 + (m + n - in_turn m n (o - 1)) ≤ length (build G (glued_cell k A B)) = omega (arith, length-build G (glued_cell k A B)) in
      rw e (same-part Empty B.cells (build G (glued_cell k A B)) (ordinality F (in_second k E F (coordinate G o)) - 1) (o - 1) (m + n - in_turn m n (o - 1)) y z (λ i b.
      let q : ordinality F (in_second k E F (coordinate G o)) - 1 + i ≡ turn m n (o - 1) * n + (in_turn m n (o - 1) - m) + i = omega (arith, x) in
      ap (λ (w : ℕ). get_or B.cells w Empty) q
      ∙ sym (turns-right Empty m n A.cells B.cells (o - 1) i l (omega arith))
      ∙ sym (cell i (omega arith))))
