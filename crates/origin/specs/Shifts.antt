-- An extent moved by amounts, where it stays in range: it has as many cells, and its coordinates moved back are the old ones, in the
-- same order. So a shift moves no cell from its place in the row.
use Rattle.std.specs.Prelude.{ℕ, ◌+◌, ◌-◌, ◌*◌, ◌/◌, ◌%◌, ◌≤◌, ◌<◌, ◌≡◌, refl, List, [], ◌∷◌, ℤ, ◌+ℤ◌, ◌-ℤ◌, drop}
use Rattle.std.proofs.Common.{ap, ap₂, ◌∙◌, mod-lt, arith}
use Rattle.paper.specs.declared.Axis.{Axis}
use Rattle.paper.specs.Limits.{reach, limit_bytes}
use Rattle.paper.specs.Numbers.{signed_at, position, distance, moved}
use Rattle.paper.specs.Axes.{width, cells, at_offset}
use Rattle.paper.specs.Recipe.{each_anew, shifted}
use Rattle.paper.specs.Values.{shifted_back}
use Rattle.laws.specs.Parts.{up, dn, add_parts, minus-parts}
use Rattle.laws.specs.Positions.{position-parts, distance-from, position-back}
use Rattle.laws.specs.Limits.{Sound}
use Rattle.laws.specs.Places.{right-pos}

-- a position moved to one in range is moved by the amount
moved_by : (d : ℕ) (z : ℤ) → moved d z ≤ 2 * reach → moved d z + dn z ≡ d + up z
moved_by d z h =
    let e = position-back (position d +ℤ z) h in
    omega (arith, ap up e, ap dn e, position-parts d, position-parts (moved d z), add_parts (position d) z)

-- and one that far from x is x moved back
moved_back : (x y : ℕ) (z : ℤ) → x + dn z ≡ y + up z → distance (position x -ℤ z) ≡ y
moved_back x y z h =
    let m = minus-parts (position x) z in
    omega (arith, m, position-parts x, distance-from (position x -ℤ z) (omega (arith, m, position-parts x)))

pub cells-shifted : (E : List Axis) (d : List ℕ) → Sound E → Sound (shifted E d) → cells (shifted E d) ≡ cells E
unfolding each_anew cells
cells-shifted [] d s t = refl
cells-shifted (a ∷ E) d s t =
    let z = signed_at 0 d in
    let low = moved_by a.lo z (omega arith) in
    let w : moved a.hi z + 1 - moved a.lo z ≡ width a = omega (arith, moved_by a.hi z t.1) in
    ap₂ ◌*◌ w (cells-shifted E (drop limit_bytes d) s.2 t.2)

pub shifted-back : (E : List Axis) (d : List ℕ) (k : ℕ) → Sound E → Sound (shifted E d) → k < cells E
    → shifted_back (at_offset (shifted E d) k) d ≡ at_offset E k
unfolding each_anew cells at_offset shifted_back
shifted-back [] d k s t h = refl
shifted-back (a ∷ E) d k s t h =
    let z = signed_at 0 d in
    let E' = shifted E (drop limit_bytes d) in
    let c = cells-shifted E (drop limit_bytes d) s.2 t.2 in
    let n = right-pos (width a) (cells E) k h in
    let x = a.lo + k / cells E in
    let y = moved a.lo z + k / cells E in
    let p : distance (position y -ℤ z) ≡ x = moved_back y x z (omega (arith, moved_by a.lo z (omega arith))) in
    ap (λ (m : ℕ). distance (position (moved a.lo z + k / m) -ℤ z) ∷ shifted_back (at_offset E' (k % m)) (drop limit_bytes d)) c
    ∙ ap₂ (λ (x : ℕ) (l : List ℕ). x ∷ l) p (shifted-back E (drop limit_bytes d) (k % cells E) s.2 t.2 (mod-lt k n))
