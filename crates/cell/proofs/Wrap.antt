-- A sum or a difference s by its bits n, which wrap: read back, they are s where s fits; and whether it fits is told by the signs. Assumes
-- nothing.
use Rattle.std.specs.Prelude.{Ok, Err}
use Rattle.paper.specs.declared.Fault.TheVariants.{NoFit}
use Rattle.std.proofs.Common.{◌≡◌, ℕ, suc, ◌+◌, ◌-◌, ◌*◌, ◌/◌, ◌%◌, ◌^◌, ◌<◌, ◌≤◌, Bool, true, false, ltb, ℤ, pos, negsuc, ◌+ℤ◌, ◌-ℤ◌, sym, refl, ap, ◌∙◌, arith, to_z-of_z, w64, SFits, to_z, of_z, ltb-false, ltb-true}
use mir.Facts.{Fits-of_z}
use Rattle.laws.specs.Parts.{up, dn, One, one-part, sub_parts, add_parts, minus-parts, fit_parts, parts-fit, parts-eq, to_z-low, to_z-high}
use Rattle.paper.specs.Operators.{fit_int}
use Rattle.paper.specs.declared.Cell.TheVariants.{Int}
use Rattle.cell.specs.Signs.{signs_apart}
use Rattle.cell.proofs.Fit.{fit-yes, fit-high, fit_low}
use Rattle.cell.proofs.Signs.{signs-yes, signs-no}

-- the bits n read as a number, in parts
pub to_z-parts : (n : ℕ) → n < 2 ^ 64 → (up (to_z w64 n) + n / 2 ^ 63 * 2 ^ 64 ≡ n + dn (to_z w64 n)) × One (to_z w64 n)
to_z-parts n h = go (ltb n (2 ^ 63)) refl
  where
    go : (b : Bool) → ltb n (2 ^ 63) ≡ b → (up (to_z w64 n) + n / 2 ^ 63 * 2 ^ 64 ≡ n + dn (to_z w64 n)) × One (to_z w64 n)
    go true e = let l : n < 2 ^ 63 = ltb-true n (2 ^ 63) e in omega (arith, to_z-low w64 n l, one-part (to_z w64 n))
    go false e = let l : 2 ^ 63 ≤ n = ltb-false n (2 ^ 63) e in omega (arith, to_z-high w64 n l h, one-part (to_z w64 n))

-- the bits of a sum and of a difference, which wrap
add-bits : (x y : ℤ) → SFits w64 x → SFits w64 y → (of_z w64 x + of_z w64 y) % 2 ^ 64 ≡ (up (x +ℤ y) + (2 ^ 64 - dn (x +ℤ y))) % 2 ^ 64
add-bits (pos a) (pos b) f g = omega (arith, f.sfits, g.sfits)
add-bits (pos a) (negsuc b) f g = omega (arith, sub_parts a (suc b), f.sfits, g.sfits)
add-bits (negsuc a) (pos b) f g = omega (arith, sub_parts b (suc a), f.sfits, g.sfits)
add-bits (negsuc a) (negsuc b) f g = omega (arith, f.sfits, g.sfits)

sub-bits : (x y : ℤ) (n : ℕ) → SFits w64 x → SFits w64 y → n < 2 ^ 64 → (n + of_z w64 y) % 2 ^ 64 ≡ of_z w64 x → n ≡ (up (x -ℤ y) + (2 ^ 64 - dn (x -ℤ y))) % 2 ^ 64
sub-bits (pos a) (pos b) n f g h e = omega (arith, minus-parts (pos a) (pos b), f.sfits, g.sfits)
sub-bits (pos a) (negsuc b) n f g h e = omega (arith, minus-parts (pos a) (negsuc b), f.sfits, g.sfits)
sub-bits (negsuc a) (pos b) n f g h e = omega (arith, minus-parts (negsuc a) (pos b), f.sfits, g.sfits)
sub-bits (negsuc a) (negsuc b) n f g h e = omega (arith, minus-parts (negsuc a) (negsuc b), f.sfits, g.sfits)

-- s fits, so z, which its bits n read back as, is s
same : (s z : ℤ) (n : ℕ) → n ≡ (up s + (2 ^ 64 - dn s)) % 2 ^ 64 → z ≡ to_z w64 n → (up s < 2 ^ 63) × (dn s ≤ 2 ^ 63)
    → Ok (Int (to_z w64 (of_z w64 z))) ≡ fit_int s
same s z n b e h =
    let p : (up z + n / 2 ^ 63 * 2 ^ 64 ≡ n + dn z) × One z = rw e (to_z-parts n (omega arith)) in
    let g : SFits w64 s = parts-fit w64 s h in
    let i : z ≡ s = parts-eq z s (omega (arith, one-part s)) in
    ap (λ (y : ℤ). Ok (Int (to_z w64 (of_z w64 y)))) i ∙ ap (λ (y : ℤ). Ok (Int y)) (to_z-of_z g) ∙ sym (fit-yes s g)

-- a number's bits, in parts
of_z-parts : (x : ℤ) → SFits w64 x → up x + of_z w64 x / 2 ^ 63 * 2 ^ 64 ≡ of_z w64 x + dn x
of_z-parts x f =
    let e : to_z w64 (of_z w64 x) ≡ x = to_z-of_z f in
    let l : of_z w64 x < 2 ^ 64 = omega (arith, Fits-of_z f) in
    rw e at (to_z-parts (of_z w64 x) l).0

module _ (x y : ℤ) (f : SFits w64 x) (g : SFits w64 y) where
  -- the sum that wraps: it fits exactly if it has the sign of x or of y
  pub add-fits : (z : ℤ) → z ≡ to_z w64 ((of_z w64 x + of_z w64 y) % 2 ^ 64)
      → signs_apart (of_z w64 x) (of_z w64 y) ((of_z w64 x + of_z w64 y) % 2 ^ 64) ≡ false → Ok (Int (to_z w64 (of_z w64 z))) ≡ fit_int (x +ℤ y)
  add-fits z e h =
      same (x +ℤ y) z _ (add-bits x y f g) e
      (signs-no (of_z w64 x) (of_z w64 y) ((of_z w64 x + of_z w64 y) % 2 ^ 64) ((up (x +ℤ y) < 2 ^ 63) × (dn (x +ℤ y) ≤ 2 ^ 63)) h
      (λ s. omega (arith, add_parts x y, one-part x, one-part y, of_z-parts x f, of_z-parts y g, fit_parts f, fit_parts g, s))
      (λ s. omega (arith, add_parts x y, one-part x, one-part y, of_z-parts x f, of_z-parts y g, fit_parts f, fit_parts g, s)))

  pub add-over : signs_apart (of_z w64 x) (of_z w64 y) ((of_z w64 x + of_z w64 y) % 2 ^ 64) ≡ true → Err NoFit ≡ fit_int (x +ℤ y)
  add-over h =
      go (ltb (of_z w64 x) (2 ^ 63)) refl
      (signs-yes (of_z w64 x) (of_z w64 y) ((of_z w64 x + of_z w64 y) % 2 ^ 64) (omega (arith, Fits-of_z f)) (omega (arith, Fits-of_z g)) (omega arith) h)
    where
      go : (b : Bool) → ltb (of_z w64 x) (2 ^ 63) ≡ b → (of_z w64 x / 2 ^ 63 + (of_z w64 x + of_z w64 y) % 2 ^ 64 / 2 ^ 63 ≡ 1) × (of_z w64 y / 2 ^ 63 + (of_z w64 x + of_z w64 y) % 2 ^ 64 / 2 ^ 63 ≡ 1) → Err NoFit ≡ fit_int (x +ℤ y)
      go true k s = sym (fit-high (x +ℤ y) (omega (arith, add_parts x y, one-part x, one-part y, of_z-parts x f, of_z-parts y g, fit_parts f, fit_parts g, ltb-true (of_z w64 x) (2 ^ 63) k)))
      go false k s = sym (fit_low (x +ℤ y) (omega (arith, add_parts x y, one-part x, one-part y, of_z-parts x f, of_z-parts y g, fit_parts f, fit_parts g, ltb-false (of_z w64 x) (2 ^ 63) k)))

  -- the difference n: it fits exactly if x has its sign or y's
  module _ (n : ℕ) (l : n < 2 ^ 64) (d : (n + of_z w64 y) % 2 ^ 64 ≡ of_z w64 x) where
    pub sub-fits : (z : ℤ) → z ≡ to_z w64 n → signs_apart (of_z w64 y) n (of_z w64 x) ≡ false → Ok (Int (to_z w64 (of_z w64 z))) ≡ fit_int (x -ℤ y)
    sub-fits z e h =
        same (x -ℤ y) z n (sub-bits x y n f g l d) e
        (signs-no (of_z w64 y) n (of_z w64 x) ((up (x -ℤ y) < 2 ^ 63) × (dn (x -ℤ y) ≤ 2 ^ 63)) h
        (λ s. omega (arith, minus-parts x y, one-part x, one-part y, of_z-parts x f, of_z-parts y g, fit_parts f, fit_parts g, s))
        (λ s. omega (arith, minus-parts x y, one-part x, one-part y, of_z-parts x f, of_z-parts y g, fit_parts f, fit_parts g, s)))

    pub sub-over : signs_apart (of_z w64 y) n (of_z w64 x) ≡ true → Err NoFit ≡ fit_int (x -ℤ y)
    sub-over h =
        go (ltb (of_z w64 x) (2 ^ 63)) refl (signs-yes (of_z w64 y) n (of_z w64 x) (omega (arith, Fits-of_z g)) l (omega (arith, Fits-of_z f)) h)
      where
        go : (b : Bool) → ltb (of_z w64 x) (2 ^ 63) ≡ b → (of_z w64 y / 2 ^ 63 + of_z w64 x / 2 ^ 63 ≡ 1) × (n / 2 ^ 63 + of_z w64 x / 2 ^ 63 ≡ 1) → Err NoFit ≡ fit_int (x -ℤ y)
        go true k s = sym (fit-high (x -ℤ y) (omega (arith, minus-parts x y, one-part x, one-part y, of_z-parts x f, of_z-parts y g, fit_parts f, fit_parts g, ltb-true (of_z w64 x) (2 ^ 63) k)))
        go false k s = sym (fit_low (x -ℤ y) (omega (arith, minus-parts x y, one-part x, one-part y, of_z-parts x f, of_z-parts y g, fit_parts f, fit_parts g, ltb-false (of_z w64 x) (2 ^ 63) k)))
