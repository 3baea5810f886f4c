-- Parts of a list of bytes: so many are there, and a part of a part is a part.
use Rattle.std.specs.Prelude.{◌≡◌, List, [], ◌∷◌, ℕ, zero, suc, ◌+◌, ◌-◌, ◌≤◌, length, take, drop}
use Rattle.std.proofs.Common.{sym, ap, ◌∙◌, arith, drop-drop, take-take}
use Rattle.std.proofs.Math.Seq.{take-nil}
use Rattle.paper.specs.Numbers.{part}

-- n bytes from byte `at` on are there
pub record Holds (at n : ℕ) (bs : List ℕ) : Type 0 where
  pub room : at + n ≤ length bs

drop-take : (i w : ℕ) (l : List ℕ) → i ≤ w → drop i (take w l) ≡ take (w - i) (drop i l)
drop-take zero w l h = let e : w - 0 ≡ w = omega arith in rw e
drop-take (suc i) zero l h = absurd (omega arith)
drop-take (suc i) (suc w) [] h = sym (take-nil (suc w - suc i))
drop-take (suc i) (suc w) (x ∷ l) h = let e : suc w - suc i ≡ w - i = omega arith in rw e (drop-take i w l (omega arith))

-- k bytes from i on, of w bytes from `at` on
pub part-part : (s : List ℕ) (at w i k : ℕ) → i + k ≤ w → part i k (part at w s) ≡ part (at + i) k s
part-part s at w i k h =
    ap (take k) (drop-take i w (drop at s) (omega arith))
    ∙ take-take k (w - i) (drop i (drop at s)) (omega arith)
    ∙ ap (take k) (drop-drop i at s)

-- k bytes from i on, after n of w bytes from `at` on
pub part-after : (s : List ℕ) (at w n i k : ℕ) → n + i + k ≤ w → part i k (drop n (part at w s)) ≡ part i k (drop (at + n) s)
part-after s at w n i k h =
    let e : at + (n + i) ≡ at + n + i = omega arith in
    ap (take k) (drop-drop i n (part at w s)) ∙ part-part s at w (n + i) k h ∙ ap (λ (j : ℕ). part j k s) e ∙ ap (take k) (sym (drop-drop i (at + n) s))
