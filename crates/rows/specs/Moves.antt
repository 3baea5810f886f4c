-- The runs and lines of each move, read off where its cells come from: found in an extent, the same cell, a layer of each block, or two
-- arrays' blocks in turn.
use Rattle.std.specs.Prelude.{ℕ, ◌+◌, ◌-◌, ◌*◌, ◌/◌, ◌%◌, ◌≤◌, ◌<◌, ◌≡◌, refl, Bool, true, false, List, ltb, if◌then◌else◌, Some, None, Option}
use Rattle.std.proofs.Common.{sym, ap, ap₂, ◌∙◌, mod-lt, one-mul, le-div_iff_mul-le, add-mul, div-add-mod', arith, ltb-true, ltb-false, lt-ltb, le-ltb}
use Rattle.std.proofs.Math.Nat.{add-mul-div_right, add-mul-mod_self_right}
use Rattle.std.proofs.Math.Arith.{digits_div, digits_mod}
use Rattle.paper.specs.declared.Axis.{Axis}
use Rattle.paper.specs.Axes.{cells, at_offset}
use Rattle.laws.specs.Glue.{turn, in_turn}
use Rattle.origin.specs.declared.Origin.{Origin}
use Rattle.origin.specs.declared.Origin.TheVariants.{Nowhere, FromA, FromB}
use Rattle.origin.specs.Origins.{found_in, in_a, over_a, turn_origin}
use Rattle.rows.specs.declared.sides.Lines.{Lines}
use Rattle.rows.specs.declared.Pattern.{Pattern}
use Rattle.rows.specs.Bands.{pattern, onward, Along, Again}
use Rattle.rows.specs.Sides.{later, SideBySide, Lined}

-- ---- found in an extent

in-later : (i b : ℕ) (f : Option ℕ) → in_a (later i f) ≡ onward i b (in_a f)
in-later i b (Some j) = refl
in-later i b None = refl

over-later : (k a i : ℕ) (f : Option ℕ) → over_a (k + a) (later i f) ≡ onward a i (over_a k f)
over-later k a i (Some j) = refl
over-later k a i None = refl

module _ {O : ℕ → Origin} {G E : List Axis} where
  -- A's cell there, or none
  module _ (is : (k : ℕ) → k < cells G → O k ≡ in_a (found_in E (at_offset G k))) where
    pub in-along : {k n : ℕ} → SideBySide G E k n → Along O (cells G) k n
    in-along {k} s = record {
      each = λ i l h.
          is (k + i) h ∙ ap in_a (s.each i l) ∙ in-later i i (found_in E (at_offset G k)) ∙ ap (onward i i) (sym (is k (omega arith)));
    }

    pub in-again : {k : ℕ} {l : Lines} → Lined G E k l → Again O (cells G) k (pattern l.line l.lines l.stride 0)
    in-again {k} {l} s = record {
      some = s.some;
      long = s.long;
      room = s.room;
      each = λ r y m n h.
          is (k + (r * l.line + y)) h ∙ ap in_a (s.each r y m n) ∙ in-later (r * l.stride) (r * 0) (found_in E (at_offset G (k + y)))
          ∙ ap (onward (r * l.stride) (r * 0)) (sym (is (k + y) (omega arith)));
    }

  -- the array's cell there, or A's same cell
  module _ (is : (k : ℕ) → k < cells G → O k ≡ over_a k (found_in E (at_offset G k))) where
    pub over-along : {k n : ℕ} → SideBySide G E k n → Along O (cells G) k n
    over-along {k} s = record {
      each = λ i l h.
          is (k + i) h ∙ ap (over_a (k + i)) (s.each i l) ∙ over-later k i i (found_in E (at_offset G k))
          ∙ ap (onward i i) (sym (is k (omega arith)));
    }

    pub over-again : {k : ℕ} {l : Lines} → Lined G E k l → Again O (cells G) k (pattern l.line l.lines l.line l.stride)
    over-again {k} {l} s = record {
      some = s.some;
      long = s.long;
      room = s.room;
      each = λ r y m n h.
          let e : k + (r * l.line + y) ≡ k + y + r * l.line = omega arith in
          is (k + (r * l.line + y)) h ∙ ap₂ over_a e (s.each r y m n)
          ∙ over-later (k + y) (r * l.line) (r * l.stride) (found_in E (at_offset G (k + y)))
          ∙ ap (onward (r * l.line) (r * l.stride)) (sym (is (k + y) (omega arith)));
    }

-- ---- the same cell

pub own-along : {O : ℕ → Origin} {n k : ℕ} (m : ℕ) → ((j : ℕ) → j < n → O j ≡ FromA j) → Along O n k m
own-along {O} {n} {k} m is = record { each = λ i l h. is (k + i) h ∙ sym (ap (onward i i) (is k (omega arith))) }

-- ---- lines that come again to the end

-- a line comes again wherever it stands
abbrev pub Every : (ℕ → Origin) → ℕ → ℕ → ℕ → ℕ → Type 0
Every O n line a b = (j r : ℕ) → j + r * line < n → O (j + r * line) ≡ onward (r * a) (r * b) (O j)

-- as many whole lines as are left, or else what is left as one line
abbrev pub lines_left : ℕ → ℕ → ℕ → ℕ → Pattern
lines_left left line a b = if ltb left line then pattern left 1 0 0 else pattern line (left / line) a b

onward-none : (o : Origin) → o ≡ onward 0 0 o
onward-none Nowhere = refl
onward-none (FromA j) = let e : j ≡ j + 0 = omega arith in ap FromA e
onward-none (FromB j) = let e : j ≡ j + 0 = omega arith in ap FromB e

module _ {O : ℕ → Origin} {n k : ℕ} (h : k < n) where
  -- one line comes from where it comes
  pub once : Again O n k (pattern (n - k) 1 0 0)
  once = record {
    some = omega arith;
    long = omega arith;
    room = omega (arith, one-mul (n - k));
    each = λ r y a b c.
        let z : r ≡ 0 = omega arith in
        let f : k + (0 * (n - k) + y) ≡ k + y = omega arith in
        let g : 0 * 0 ≡ 0 = omega arith in
        rw (z, f, g) (onward-none (O (k + y)));
  }

  pub to_the_end : (line a b : ℕ) → 1 ≤ line → Every O n line a b → Again O n k (lines_left (n - k) line a b)
  to_the_end line a b l every = by (ltb (n - k) line) refl
    where
      by : (c : Bool) → ltb (n - k) line ≡ c → Again O n k (if c then pattern (n - k) 1 0 0 else pattern line ((n - k) / line) a b)
      by true e = once
      by false e = record {
        some = (le-div_iff_mul-le {x = 1} l).1 (omega (arith, ltb-false (n - k) line e, one-mul line));
        long = l;
        room = omega (arith, div-add-mod' (n - k) line);
        each = λ r y m q s.
            let f : k + (r * line + y) ≡ k + y + r * line = omega arith in
            rw f (every (k + y) r (omega arith));
      }

-- ---- a layer of each block

-- cell j of a slice: c cells into each block, a layer of it
abbrev pub layer_cell : ℕ → ℕ → ℕ → ℕ → ℕ
layer_cell layer block c j = j / layer * block + (c + j % layer)

module _ {O : ℕ → Origin} {n : ℕ} (layer block c : ℕ) (l : 1 ≤ layer) (is : (j : ℕ) → j < n → O j ≡ FromA (layer_cell layer block c j)) where
  pub layer-along : {k : ℕ} → Along O n k (layer - k % layer)
  layer-along {k} = record {
    each = λ i m h.
        let w : k % layer + i < layer = omega (arith, mod-lt k l) in
        let s : k + i ≡ k / layer * layer + (k % layer + i) = omega (arith, div-add-mod' k layer) in
        let d = ap (λ (x : ℕ). x / layer) s ∙ digits_div (k / layer) w in
        let e = ap (λ (x : ℕ). x % layer) s ∙ digits_mod (k / layer) w in
        let f : layer_cell layer block c (k + i) ≡ layer_cell layer block c k + i =
        ap₂ (λ (x y : ℕ). x * block + (c + y)) d e ∙ omega arith in
        is (k + i) h ∙ ap FromA f ∙ sym (ap (onward i i) (is k (omega arith)));
  }

  pub layer-every : Every O n layer block 0
  layer-every j r h =
      let d : (j + r * layer) / layer ≡ j / layer + r = add-mul-div_right j r l in
      let e : (j + r * layer) % layer ≡ j % layer = add-mul-mod_self_right j r layer in
      let f : layer_cell layer block c (j + r * layer) ≡ layer_cell layer block c j + r * block =
      ap₂ (λ (x y : ℕ). x * block + (c + y)) d e ∙ ap (λ (x : ℕ). x + (c + j % layer)) (add-mul (j / layer) r block) ∙ omega arith in
      is (j + r * layer) h ∙ ap FromA f ∙ sym (ap (onward (r * block) (r * 0)) (is j (omega arith)))

-- ---- two arrays' blocks in turn

-- the rest of the block that cell k is in
abbrev pub turn_left : ℕ → ℕ → ℕ → ℕ
turn_left m n k = if ltb (in_turn m n k) m then m - in_turn m n k else m + n - in_turn m n k

module _ {O : ℕ → Origin} {all : ℕ} (m n : ℕ) (l : 1 ≤ m) (is : (j : ℕ) → j < all → O j ≡ turn_origin m n j) where
  pub turn-every : Every O all (m + n) m n
  turn-every j r h =
      let d : (j + r * (m + n)) / (m + n) ≡ j / (m + n) + r = add-mul-div_right j r (omega arith) in
      let e : (j + r * (m + n)) % (m + n) ≡ j % (m + n) = add-mul-mod_self_right j r (m + n) in
      is (j + r * (m + n)) h ∙ rw (d, e) (by (ltb (in_turn m n j) m)) ∙ sym (ap (onward (r * m) (r * n)) (is j (omega arith)))
    where
      by : (b : Bool)
          → (if b then FromA ((turn m n j + r) * m + in_turn m n j) else FromB ((turn m n j + r) * n + (in_turn m n j - m)))
          ≡ onward (r * m) (r * n) (if b then FromA (turn m n j * m + in_turn m n j) else FromB (turn m n j * n + (in_turn m n j - m)))
      by true =
          let f : (turn m n j + r) * m + in_turn m n j ≡ turn m n j * m + in_turn m n j + r * m = omega (arith, add-mul (turn m n j) r m) in
          ap FromA f
      by false =
          let f : (turn m n j + r) * n + (in_turn m n j - m) ≡ turn m n j * n + (in_turn m n j - m) + r * n =
          omega (arith, add-mul (turn m n j) r n) in
          ap FromB f

  pub turn_along : {k : ℕ} → Along O all k (turn_left m n k)
  turn_along {k} = record {
    each = λ i x h. is (k + i) h ∙ by (ltb (in_turn m n k) m) refl i x ∙ sym (ap (onward i i) (is k (omega arith)));
  }
    where
      t : ℕ
      t = in_turn m n k

      in-turn : (i : ℕ) → t + i < m + n → (turn m n (k + i) ≡ turn m n k) × (in_turn m n (k + i) ≡ t + i)
      in-turn i w =
          let s : k + i ≡ k / (m + n) * (m + n) + (t + i) = omega (arith, div-add-mod' k (m + n)) in
          (ap (λ (x : ℕ). x / (m + n)) s ∙ digits_div (k / (m + n)) w, ap (λ (x : ℕ). x % (m + n)) s ∙ digits_mod (k / (m + n)) w)

      by : (b : Bool) → ltb t m ≡ b → (i : ℕ) → i < (if b then m - t else m + n - t)
          → turn_origin m n (k + i) ≡ onward i i (if b then FromA (turn m n k * m + t) else FromB (turn m n k * n + (t - m)))
      by true e i x =
          let a = ltb-true t m e in
          let w = in-turn i (omega arith) in
          let f : turn m n k * m + (t + i) ≡ turn m n k * m + t + i = omega arith in
          rw (w.0, w.1, lt-ltb (t + i) m (omega arith)) (ap FromA f)
      by false e i x =
          let a = ltb-false t m e in
          let w = in-turn i (omega (arith, mod-lt k {m = m + n} (omega arith))) in
          let f : turn m n k * n + (t + i - m) ≡ turn m n k * n + (t - m) + i = omega arith in
          rw (w.0, w.1, le-ltb (t + i) m (omega arith)) (ap FromB f)
