-- The line of a row, from its bytes in the row buffer: the ordinality, each position after a space, and the end of the line. The loop
-- keeps it true that whatever writes what is left completes the line. Where the bytes are a row's, the line is that row's text.
use Rattle.std.specs.Prelude.{ℕ, zero, suc, ◌+◌, ◌-◌, ◌*◌, ◌^◌, ◌≤◌, ◌<◌, ◌≡◌, refl, List, [], ◌∷◌, ◌++◌, map, pos, length, drop}
use Rattle.std.proofs.Common.{sym, ap, ap₂, ◌∙◌, append_assoc, le_trans, arith, drop-drop, to_z}
use Rattle.std.proofs.Math.Seq.{take-append_seam, drop-append_seam}
use Rattle.std.specs.Int.{w32}
use Rattle.paper.specs.declared.Axis.{Axis}
use Rattle.paper.specs.Limits.{limit_bytes}
use Rattle.paper.specs.Numbers.{le_of, le_bytes, text, part, position, position_at, position_bytes, distance, concat}
use Rattle.paper.specs.Axes.{cells, coordinate, Shape}
use Rattle.paper.specs.Listing.{row}
use Rattle.paper.specs.Rests.{digits, decimal, spaced, row_text}
use Rattle.laws.specs.Numbers.{le_of-le_bytes}
use Rattle.laws.proofs.Positions.{position-read}
use Rattle.laws.specs.Places.{Inside}
use Rattle.laws.proofs.Places.{coordinate-inside}
use Rattle.laws.specs.Limits.{Sound}
use Rattle.decimal.specs.Wrote.{Wrote, wrote_then, wrote_as}
use Rattle.decimal.specs.Digits.{digits-most, decimal-most}
use Rattle.decimal.specs.Lines.{number, most_spaced}

-- n positions from byte i on
unfoldable pub positions_from : ℕ → ℕ → List ℕ → List ℕ
positions_from zero i bs = []
positions_from (suc n) i bs = position_at i bs ∷ positions_from n (i + limit_bytes) bs

-- each after a space, and the end of the line
abbrev pub rest_at : List ℕ → ℕ → ℕ → List ℕ
rest_at bs i n = spaced (map position (positions_from n i bs)) ++ text "\n"

-- the line of the row of n positions at byte `from`
abbrev pub line_at : List ℕ → ℕ → ℕ → List ℕ
line_at bs from n = decimal (pos (le_of (part from limit_bytes bs))) ++ rest_at bs (from + limit_bytes) n

-- the bytes that it takes at most
abbrev pub most_row : ℕ → ℕ
most_row n = (n + 1) * most_spaced + 1

-- ---- the loop over the positions

-- a position, then the rest
rest-on : (bs : List ℕ) (j k : ℕ) (d : List ℕ) (end m : ℕ) (y : List ℕ) (r : ℕ) (u : List ℕ) → end + most_spaced ≤ length d
    → Wrote d end (number (position (position_at j bs))) m y
    → Wrote y m (rest_at bs (j + limit_bytes) k) r u → Wrote d end (rest_at bs j (suc k)) r u
unfolding positions_from spaced concat
rest-on bs j k d end m y r u h p q =
    let z = position (position_at j bs) in
    wrote_as d end (append_assoc (number z) _ (text "\n"))
    (wrote_then d end (number z) m y (rest_at bs (j + limit_bytes) k) r u (omega (arith, decimal-most z)) p q)

rest-none : (bs : List ℕ) (j : ℕ) → rest_at bs j 0 ≡ text "\n"
unfolding positions_from spaced concat
rest-none bs j = refl

-- of n positions from byte j on, i are written, up to byte `end`
pub record Lining (bs : List ℕ) (j n : ℕ) (d₀ : List ℕ) (at : ℕ) (d : List ℕ) (end i : ℕ) : Type 0 where
  pub turns : i ≤ n
  pub long : length d ≡ length d₀
  pub room : end + (n - i) * most_spaced + 1 ≤ length d
  pub left : (r : ℕ) (y : List ℕ) → Wrote d end (rest_at bs (j + i * limit_bytes) (n - i)) r y → Wrote d₀ at (rest_at bs j n) r y

module _ {bs : List ℕ} {j n : ℕ} {d₀ : List ℕ} {at : ℕ} where
  pub line-begins : at + n * most_spaced + 1 ≤ length d₀ → Lining bs j n d₀ at d₀ at 0
  line-begins h =
      let e : j + 0 * limit_bytes ≡ j = omega arith in
      let f : n - 0 ≡ n = omega arith in
      record { turns = omega arith; long = refl; room = omega arith; left = λ r y w. (rw (e, f) at w) }

  module _ {d : List ℕ} {end i : ℕ} (v : Lining bs j n d₀ at d end i) where
    pub line-more : i < n → {p m : ℕ} {y : List ℕ} → p ≡ position_at (j + i * limit_bytes) bs → length y ≡ length d
        → Wrote d end (number (position p)) m y → Lining bs j n d₀ at y m (i + 1)
    line-more h {p} {m} {y} e l w =
        let s : n - i ≡ suc (n - (i + 1)) = omega arith in
        let t : j + i * limit_bytes + limit_bytes ≡ j + (i + 1) * limit_bytes = omega arith in
        let on = rest-on bs (j + i * limit_bytes) (n - (i + 1)) d end m y in
        record {
          turns = omega arith;
          long = l ∙ v.long;
          room = omega (arith, decimal-most (position p), v.room);
          left = λ r u q. v.left r u (rw s (on r u (omega (arith, v.room)) (rw e at w) (rw t q)));
        }

    pub line-ends : n ≤ i → {r : ℕ} {y : List ℕ} → Wrote d end (text "\n") r y → Wrote d₀ at (rest_at bs j n) r y
    line-ends h {r} {y} w = let s : n - i ≡ 0 = omega arith in v.left r y (rw (s, rest-none) w)

-- the ordinality, then the rest
pub line_wrote : (bs : List ℕ) (from n : ℕ) (d₀ : List ℕ) (at : ℕ) {m o r : ℕ} {d₁ y : List ℕ} → at + most_row n ≤ length d₀
    → o ≡ le_of (part from limit_bytes bs) → Wrote d₀ at (digits 19 o) m d₁ → Wrote d₁ m (rest_at bs (from + limit_bytes) n) r y
    → Wrote d₀ at (line_at bs from n) r y
unfolding decimal
line_wrote bs from n d₀ at {m} {o} h e p q =
    rw (← e) (wrote_then d₀ at (digits 19 o) m _ (rest_at bs (from + limit_bytes) n) _ _ (omega (arith, digits-most 19 o)) p q)

-- ---- bytes that are a row's

-- what stands at a place, and then the rest
stands : (x y bs : List ℕ) (i : ℕ) → drop i bs ≡ x ++ y → (part i (length x) bs ≡ x) × (drop (i + length x) bs ≡ y)
stands x y bs i e = (rw e (take-append_seam x y), sym (drop-drop (length x) i bs) ∙ rw e (drop-append_seam x y))

-- positions of an extent, read where their bytes stand
positions-read : (E : List Axis) (p bs : List ℕ) (i : ℕ) (z : List ℕ) → Sound E → Inside E p
    → drop i bs ≡ concat (map position_bytes p) ++ z → positions_from (length E) i bs ≡ p
unfolding positions_from concat le_bytes
positions-read [] [] bs i z s h e = refl
positions-read [] (x ∷ p) bs i z s h e = absurd h
positions-read (a ∷ E) [] bs i z s h e = absurd h
positions-read (a ∷ E) (x ∷ p) bs i z s h e =
    let c : List ℕ = concat (map position_bytes p) in
    let t = stands (position_bytes x) (c ++ z) bs i (e ∙ append_assoc (position_bytes x) c z) in
    ap₂ (λ (y : ℕ) (l : List ℕ). y ∷ l) (ap (λ (l : List ℕ). distance (to_z w32 (le_of l))) t.0 ∙ position-read x (le_trans h.1 s.1))
    (positions-read E p bs (i + limit_bytes) z s.2 h.2 t.1)

-- the line of a row of an array is the row's text
pub row_line : (s : Shape) (o : ℕ) (bs : List ℕ) (from : ℕ) (z : List ℕ) → Sound s.axes → 1 ≤ o → o ≤ cells s.axes → o < 2 ^ 32
    → drop from bs ≡ row s o ++ z
    → line_at bs from (length s.axes) ≡ row_text s o
unfolding row le_bytes
row_line s o bs from z g l h k e =
    let x : List ℕ = le_bytes limit_bytes o in
    let c : List ℕ = concat (map position_bytes (coordinate s.axes o)) in
    let t = stands x (c ++ z) bs from (e ∙ append_assoc x c z) in
    ap₂ (λ (n : ℕ) (p : List ℕ). decimal (pos n) ++ (spaced (map position p) ++ text "\n")) (ap le_of t.0 ∙ le_of-le_bytes limit_bytes o k)
    (positions-read s.axes (coordinate s.axes o) bs (from + limit_bytes) z g (coordinate-inside s.axes o l h) t.1)
