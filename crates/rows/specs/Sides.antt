-- Two extents of as many axes. From a cell of one on, cells are found in the other side by side, or all lie outside it, for as long as the
-- position on the last axis where the two differ stays on one side. And whole lines are found as many cells later, line after line.
use Rattle.std.specs.Prelude.{ℕ, ◌+◌, ◌-◌, ◌*◌, ◌/◌, ◌%◌, ◌≤◌, ◌<◌, ◌≡◌, Bool, true, false, ◌&&◌, List, [], ◌∷◌, ◌++◌, length, if◌then◌else◌, Some, None, Option}
use Rattle.std.proofs.Math.Path.{refl, ap₂}
use Rattle.std.proofs.Common.{sym, ap, ◌∙◌, mod-lt, div-add-mod', add-mul, mul-le-mul_right, div-lt_iff_lt-mul, one-mul, arith}
use Rattle.std.proofs.Math.Arith.{digits_lt, digits_div, digits_mod, mod-mul}
use Rattle.paper.specs.declared.Axis.{Axis}
use Rattle.paper.specs.Numbers.{alike}
use Rattle.paper.specs.Axes.{width, cells, on_axis, offset, at_offset}
use Rattle.laws.specs.Places.{left-pos, right-pos, on_axis-true, true-on_axis, true-inside, at_offset-inside, offset-at_offset, inside-length}
use Rattle.laws.specs.Alike.{SameLimits, alike-inside, cells-alike, offset-alike}
use Rattle.laws.specs.Joins.{cells-append, at_offset-append}
use Rattle.origin.specs.Origins.{found_in}
use Rattle.origin.specs.Found.{joined, found-both}
use Rattle.rows.specs.declared.sides.Lines.{Lines}

-- found i cells later
abbrev pub later : ℕ → Option ℕ → Option ℕ
later i (Some j) = Some (j + i)
later i None = None

-- from cell k of G on, n cells are found in E side by side, or lie outside it
pub record SideBySide (G E : List Axis) (k n : ℕ) : Type 0 where
  pub some : 1 ≤ n
  pub room : k + n ≤ cells G
  pub each : (i : ℕ) → i < n → found_in E (at_offset G (k + i)) ≡ later i (found_in E (at_offset G k))

-- from cell k of G on, lines of so many cells: each line's are found `stride` cells later than those of the line before
pub record Lined (G E : List Axis) (k : ℕ) (l : Lines) : Type 0 where
  pub some : 1 ≤ l.lines
  pub long : 1 ≤ l.line
  pub room : k + l.lines * l.line ≤ cells G
  pub each : (r y : ℕ) → r < l.lines → y < l.line
      → found_in E (at_offset G (k + (r * l.line + y))) ≡ later (r * l.stride) (found_in E (at_offset G (k + y)))

-- one line of the cells left
abbrev pub one_line : List Axis → ℕ → Lines
one_line G k = record { line = cells G - k; lines = 1; stride = 0 }

-- from position x of axis a on, n positions stand on one side of axis e, or on it
pub record OneSide (a e : Axis) (x n : ℕ) : Type 0 where
  pub some : 1 ≤ n
  pub room : x + n ≤ a.hi + 1
  pub each : (i : ℕ) → i < n → on_axis e (x + i) ≡ on_axis e x

-- cell k, in blocks of m cells, one for each position of axis a: n cells are left of those positions
pub record SideLeft (a e : Axis) (m k n : ℕ) : Type 0 where
  pub side : ℕ
  pub one : OneSide a e (a.lo + k / m % width a) side
  pub is : n ≡ side * m - k % m

-- ---- one axis

off-axis : (e : Axis) (x : ℕ) → (e.lo ≤ x → x ≤ e.hi → ⊥) → on_axis e x ≡ false
off-axis e x h = by (on_axis e x) refl
  where
    by : (b : Bool) → on_axis e x ≡ b → on_axis e x ≡ false
    by true q = let l = on_axis-true e x q in absurd (h l.0 l.1)
    by false q = q

module _ (a e : Axis) (x n : ℕ) (some : 1 ≤ n) (room : x + n ≤ a.hi + 1) where
  pub side-below : x + n ≤ e.lo → OneSide a e x n
  side-below h = record {
    some = some;
    room = room;
    each = λ i l. off-axis e (x + i) (λ p q. omega arith) ∙ sym (off-axis e x (λ p q. omega arith));
  }

  pub side-above : e.hi < x → OneSide a e x n
  side-above h = record {
    some = some;
    room = room;
    each = λ i l. off-axis e (x + i) (λ p q. omega arith) ∙ sym (off-axis e x (λ p q. omega arith));
  }

  pub side-on : e.lo ≤ x → x + n ≤ e.hi + 1 → OneSide a e x n
  side-on l h = record {
    some = some;
    room = room;
    each = λ i b. true-on_axis e (x + i) (omega arith) (omega arith) ∙ sym (true-on_axis e x l (omega arith));
  }

-- in blocks of m cells: more cells than those passed of the block, and no more than to the axis's end
pub side-blocks : (a e : Axis) (m k n : ℕ) → 1 ≤ m → OneSide a e (a.lo + k / m % width a) n
    → (k % m < n * m) × ((k / m % width a + n) * m ≤ width a * m)
side-blocks a e m k n pos one =
    (omega (arith, mod-lt k pos, mul-le-mul_right m one.some, one-mul m), mul-le-mul_right m (omega (arith, one.room)))

-- ---- found later, in two extents put together

joined-right : (n i : ℕ) (f g : Option ℕ) → joined n f (later i g) ≡ later i (joined n f g)
joined-right n i (Some a) (Some b) = let e : a * n + (b + i) ≡ a * n + b + i = omega arith in ap Some e
joined-right n i (Some a) None = refl
joined-right n i None g = refl

joined-left : (n r : ℕ) (f g : Option ℕ) → joined n (later r f) g ≡ later (r * n) (joined n f g)
joined-left n r (Some a) (Some b) =
    let e : (a + r) * n + b ≡ a * n + b + r * n = omega (arith, add-mul a r n) in ap Some e
joined-left n r (Some a) None = refl
joined-left n r None g = refl

-- d lines later at cell s, counted from cell r of the first
joined-on : (n d r s i : ℕ) (f : Option ℕ) → d * n + s ≡ r + i → joined n (later d f) (Some s) ≡ later i (joined n f (Some r))
joined-on n d r s i (Some a) h =
    let e : (a + d) * n + s ≡ a * n + r + i = omega (arith, add-mul a d n) in ap Some e
joined-on n d r s i None h = refl

-- cell k of axes before and axes after
found-parts : (G X E Y : List Axis) (k : ℕ) → length E ≡ length G → k < cells (G ++ X)
    → found_in (E ++ Y) (at_offset (G ++ X) k)
    ≡ joined (cells Y) (found_in E (at_offset G (k / cells X))) (found_in Y (at_offset X (k % cells X)))
found-parts G X E Y k s h =
    let l : k < cells G * cells X = omega (arith, cells-append G X) in
    let z = right-pos (cells G) (cells X) k l in
    let q = (div-lt_iff_lt-mul {x = k} {y = cells G} z).1 l in
    ap (found_in (E ++ Y)) (at_offset-append G X k h)
    ∙ found-both E Y (at_offset G (k / cells X)) (at_offset X (k % cells X))
    (inside-length G (at_offset G (k / cells X)) (at_offset-inside G (k / cells X) q) ∙ sym s)

-- cell q * m + y, where m are the cells of the axes after
found-digits : (G X E Y : List Axis) (q y : ℕ) → length E ≡ length G → y < cells X → q * cells X + y < cells (G ++ X)
    → found_in (E ++ Y) (at_offset (G ++ X) (q * cells X + y)) ≡ joined (cells Y) (found_in E (at_offset G q)) (found_in Y (at_offset X y))
found-digits G X E Y q y s l h =
    found-parts G X E Y (q * cells X + y) s h
    ∙ ap₂ (λ (m n : ℕ). joined (cells Y) (found_in E (at_offset G m)) (found_in Y (at_offset X n))) (digits_div q l) (digits_mod q l)

-- ---- axes with the same limits

alike-found : (X Y : List Axis) (j : ℕ) → SameLimits X Y → j < cells X → found_in Y (at_offset X j) ≡ Some j
unfolding found_in
alike-found X Y j s h =
    let p = at_offset X j in
    let o : offset Y p ≡ j = sym (offset-alike X Y p s) ∙ offset-at_offset X j h in
    rw (true-inside Y p (alike-inside X Y p s (at_offset-inside X j h)), o)

-- all axes: the cells left
pub even-side : (G E : List Axis) (k : ℕ) → SameLimits G E → k < cells G → SideBySide G E k (cells G - k)
even-side G E k s h = record {
  some = omega arith;
  room = omega arith;
  each = λ i l. alike-found G E (k + i) s (omega arith) ∙ sym (ap (later i) (alike-found G E k s h));
}

-- ---- the last axis on which they differ

-- found on one axis, d positions later
found-on : (b : Axis) (x d : ℕ) → on_axis b (x + d) ≡ on_axis b x → found_in (b ∷ []) ((x + d) ∷ []) ≡ later d (found_in (b ∷ []) (x ∷ []))
unfolding found_in alike offset cells
found-on b x d h = rw h (by (on_axis b x) refl)
  where
    by : (c : Bool) → on_axis b x ≡ c
        → (if c && true then Some ((x + d - b.lo) * 1 + 0) else None)
        ≡ later d (if c && true then Some ((x - b.lo) * 1 + 0) else None)
    by true q =
        let l = on_axis-true b x q in
        let e : (x + d - b.lo) * 1 + 0 ≡ (x - b.lo) * 1 + 0 + d = omega (arith, l.0) in
        ap Some e
    by false q = refl

module _ (a b : Axis) (X Y : List Axis) (s : SameLimits X Y) where
  -- block q of the axis, cell j of the block
  found-block : (q j : ℕ) → j < cells X
      → found_in (b ∷ Y) (at_offset (a ∷ X) (q * cells X + j)) ≡ joined (cells X) (found_in (b ∷ []) ((a.lo + q) ∷ [])) (Some j)
  unfolding at_offset
  found-block q j h =
      ap₂ (λ (x y : ℕ). found_in (b ∷ Y) ((a.lo + x) ∷ at_offset X y)) (digits_div q h) (digits_mod q h)
      ∙ found-both (b ∷ []) Y ((a.lo + q) ∷ []) (at_offset X j) refl
      ∙ ap₂ (λ (n : ℕ) (f : Option ℕ). joined n (found_in (b ∷ []) ((a.lo + q) ∷ [])) f) (sym (cells-alike X Y s)) (alike-found X Y j s h)

  -- i cells later, d blocks later
  block-later : (q r d t i : ℕ) → r < cells X → t < cells X → d * cells X + t ≡ r + i → on_axis b (a.lo + q + d) ≡ on_axis b (a.lo + q)
      → found_in (b ∷ Y) (at_offset (a ∷ X) (q * cells X + r + i)) ≡ later i (found_in (b ∷ Y) (at_offset (a ∷ X) (q * cells X + r)))
  block-later q r d t i l m e h =
      let n : q * cells X + r + i ≡ (q + d) * cells X + t = omega (arith, add-mul q d (cells X)) in
      let p : a.lo + (q + d) ≡ a.lo + q + d = omega arith in
      ap (λ (y : ℕ). found_in (b ∷ Y) (at_offset (a ∷ X) y)) n
      ∙ found-block (q + d) t m
      ∙ ap (λ (f : Option ℕ). joined (cells X) f (Some t)) (ap (λ (x : ℕ). found_in (b ∷ []) (x ∷ [])) p ∙ found-on b (a.lo + q) d h)
      ∙ joined-on (cells X) d r t i (found_in (b ∷ []) ((a.lo + q) ∷ [])) e
      ∙ sym (ap (later i) (found-block q r l))

-- behind it axes with the same limits: cells are left up to the end of its positions on one side
module _ (P Q X Y : List Axis) (a b : Axis) (same : length Q ≡ length P) (s : SameLimits X Y) where
  whole : cells (a ∷ X) ≡ width a * cells X
  unfolding cells
  whole = refl

  pub uneven-side : (k n : ℕ) → k < cells (P ++ a ∷ X) → SideLeft a b (cells X) k n → SideBySide (P ++ a ∷ X) (Q ++ b ∷ Y) k n
  uneven-side k n lt left =
      let m = cells X in
      let N = cells (a ∷ X) in
      let q = k / m % width a in
      let r = k % m in
      let f = k / N in
      let all = cells-append P (a ∷ X) in
      let l : k < cells P * N = omega arith in
      let some-N = right-pos (cells P) N k l in
      let w : 0 < width a * m = omega (arith, whole) in
      let some-w = left-pos (width a) m 0 w in
      let some-m = right-pos (width a) m 0 w in
      let u = mod-lt k some-m in
      let y : k % N ≡ q * m + r = ap (λ (x : ℕ). k % x) whole ∙ mod-mul k some-w some-m in
      let c : f * N + (q * m + r) ≡ k = omega (arith, div-add-mod' k N) in
      let one = left.one in
      let blocks = side-blocks a b m k left.side some-m one in
      let top : q * m + r + n ≤ N = omega (arith, whole, add-mul q left.side m, left.is, blocks.0, blocks.1) in
      let K : f < cells P = (div-lt_iff_lt-mul {x = k} {y = cells P} some-N).1 l in
      let block : (f + 1) * N ≤ cells P * N = mul-le-mul_right N (omega arith) in
      let room : k + n ≤ cells (P ++ a ∷ X) = omega (arith, add-mul f 1 N, one-mul N) in
      record {
        some = omega (arith, left.is, blocks.0);
        room = room;
        each = λ i h.
            let d = (r + i) / m in
            let t = (r + i) % m in
            let e : d * m + t ≡ r + i = div-add-mod' (r + i) m in
            let D : d < left.side = (div-lt_iff_lt-mul {x = r + i} {y = left.side} some-m).1 (omega (arith, left.is)) in
            let g : k + i ≡ f * N + (q * m + r + i) = omega arith in
            let there = found_in Q (at_offset P f) in
            ap (λ (x : ℕ). found_in (Q ++ b ∷ Y) (at_offset (P ++ a ∷ X) x)) g
            ∙ found-digits P (a ∷ X) Q (b ∷ Y) f (q * m + r + i) same (omega arith) (omega arith)
            ∙ ap (joined (cells (b ∷ Y)) there) (block-later a b X Y s q r d t i u (mod-lt (r + i) some-m) e (one.each d D))
            ∙ joined-right (cells (b ∷ Y)) i there (found_in (b ∷ Y) (at_offset (a ∷ X) (q * m + r)))
            ∙ sym (ap (later i)
            (ap (λ (x : ℕ). found_in (Q ++ b ∷ Y) (at_offset (P ++ a ∷ X) x)) (sym c)
            ∙ found-digits P (a ∷ X) Q (b ∷ Y) f (q * m + r) same (omega arith) (omega arith)));
      }

-- outside by the axes before: the cells left of all lines that are so
pub outside-side : (G X E Y : List Axis) (k n : ℕ) → length E ≡ length G → 0 < cells X → k < cells (G ++ X)
    → SideBySide G E (k / cells X) n → found_in E (at_offset G (k / cells X)) ≡ None
    → SideBySide (G ++ X) (E ++ Y) k (n * cells X - k % cells X)
outside-side G X E Y k n same pos lt run out =
    let m = cells X in
    let q = k / m in
    let u = mod-lt k pos in
    let c = div-add-mod' k m in
    let one : 1 * m ≤ n * m = mul-le-mul_right m run.some in
    let top : (q + n) * m ≤ cells G * m = mul-le-mul_right m run.room in
    let room : k + (n * m - k % m) ≤ cells (G ++ X) = omega (arith, add-mul q n m, one-mul m, cells-append G X) in
    let outside : (i : ℕ) → i < n * m - k % m → found_in (E ++ Y) (at_offset (G ++ X) (k + i)) ≡ None = λ i h.
    let d = (k % m + i) / m in
    let r = (k % m + i) % m in
    let w = mod-lt (k % m + i) pos in
    let D : d < n = (div-lt_iff_lt-mul {x = k % m + i} {y = n} pos).1 (omega arith) in
    let e : k + i ≡ (q + d) * m + r = omega (arith, add-mul q d m, div-add-mod' (k % m + i) m) in
    ap (λ (x : ℕ). found_in (E ++ Y) (at_offset (G ++ X) x)) e
    ∙ found-digits G X E Y (q + d) r same w (omega arith)
    ∙ ap (λ (f : Option ℕ). joined (cells Y) f (found_in Y (at_offset X r))) (run.each d D ∙ ap (later d) out) in
    let z : k + 0 ≡ k = omega arith in
    record {
      some = omega (arith, one-mul m);
      room = room;
      each = λ i h. outside i h ∙ sym (ap (later i) (rw z at (outside 0 (omega (arith, one-mul m)))));
    }

-- ---- lines

later-none : (i : ℕ) (f : Option ℕ) → i ≡ 0 → later i f ≡ f
later-none i (Some j) h = let e : j + i ≡ j = omega arith in ap Some e
later-none i None h = refl

one_line-lined : (G E : List Axis) (k : ℕ) → k < cells G → Lined G E k (one_line G k)
one_line-lined G E k h = record {
  some = omega arith;
  long = omega arith;
  room = omega arith;
  each = λ r y p q.
      let z : r ≡ 0 = omega arith in
      let e : k + (r * (cells G - k) + y) ≡ k + y = rw z (omega arith) in
      ap (λ (x : ℕ). found_in E (at_offset G x)) e ∙ sym (later-none (r * 0) (found_in E (at_offset G (k + y))) (omega arith));
}

pub one-lined : (G E : List Axis) (k : ℕ) {l : Lines} → l ≡ one_line G k → k < cells G → Lined G E k l
one-lined G E k e h = rw e (one_line-lined G E k h)

-- lines of all the axes after
pub lined_on : (G X E Y : List Axis) (k n : ℕ) → length E ≡ length G → 0 < cells X → k % cells X ≡ 0 → SideBySide G E (k / cells X) n
    → Lined (G ++ X) (E ++ Y) k (record { line = cells X; lines = n; stride = cells Y })
lined_on G X E Y k n same pos z run =
    let m = cells X in
    let q = k / m in
    let c : q * m ≡ k = omega (arith, div-add-mod' k m) in
    let all = cells-append G X in
    let top : (q + n) * m ≤ cells G * m = mul-le-mul_right m run.room in
    record {
      some = run.some;
      long = pos;
      room = omega (arith, add-mul q n m);
      each = λ r y p l.
          let e : k + (r * m + y) ≡ (q + r) * m + y = omega (arith, add-mul q r m) in
          let f : k + y ≡ q * m + y = omega arith in
          let u = digits_lt {q = q + r} {m = cells G} {r = y} {c = m} (omega (arith, run.room)) l in
          let v = digits_lt {q = q} {m = cells G} {r = y} {c = m} (omega (arith, run.room, run.some)) l in
          let first = found_in E (at_offset G q) in
          let behind = found_in Y (at_offset X y) in
          ap (λ (x : ℕ). found_in (E ++ Y) (at_offset (G ++ X) x)) e
          ∙ found-digits G X E Y (q + r) y same l (omega arith)
          ∙ ap (λ (g : Option ℕ). joined (cells Y) g behind) (run.each r p)
          ∙ joined-left (cells Y) r first behind
          ∙ sym (ap (later (r * cells Y))
          (ap (λ (x : ℕ). found_in (E ++ Y) (at_offset (G ++ X) x)) f ∙ found-digits G X E Y q y same l (omega arith)));
    }
