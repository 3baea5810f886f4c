-- The line of a refusal and the first of a listing, as their writers build them: a word, numbers each after a space, and the end of the
-- line; and how many bytes they take at most.
use Rattle.std.specs.Prelude.{ℕ, ◌+◌, ◌*◌, ◌≤◌, ◌≡◌, refl, List, [], ◌∷◌, ◌++◌, map, ℤ, pos, length}
use Rattle.std.proofs.Common.{append_assoc, append-nil, arith, length-append}
use Rattle.paper.specs.Numbers.{text, concat}
use Rattle.paper.specs.Axes.{Array}
use Rattle.paper.specs.Rests.{decimal, spaced, row_text, found_text}
use Rattle.decimal.specs.Wrote.{Wrote, wrote-three}
use Rattle.decimal.specs.Digits.{most_signed}

-- ---- a number after a space

abbrev pub number : ℤ → List ℕ
number z = text " " ++ decimal z

-- the bytes that it takes at most
abbrev pub most_spaced : ℕ
most_spaced = 1 + most_signed

-- ---- the line of a refusal, and the first of a listing

-- the bytes that they take at most
abbrev pub most_refused : ℕ
most_refused = length (text "refused") + 3 * most_spaced + 1

abbrev pub most_found : ℕ
most_found = length (text "found") + most_spaced + 1

abbrev pub found_line : ℕ → List ℕ
found_line n = text "found" ++ (spaced (pos n ∷ []) ++ text "\n")

-- a word, three numbers, and the end of the line
pub three-wrote : (d₀ : List ℕ) (at : ℕ) {a b c e r : ℕ} {d₁ d₂ d₃ d₄ d₅ : List ℕ} (t x y z w : List ℕ)
    → at + (length t + length x + length y + length z + length w) ≤ length d₀ → Wrote d₀ at t a d₁ → Wrote d₁ a x b d₂
    → Wrote d₂ b y c d₃ → Wrote d₃ c z e d₄ → Wrote d₄ e w r d₅ → Wrote d₀ at (t ++ ((x ++ (y ++ (z ++ []))) ++ w)) r d₅
three-wrote d₀ at t x y z w h p q s f g =
    let n : at + length (t ++ x ++ y) ≤ length d₀ = simp length-append (omega arith) in
    wrote-three d₀ at (t ++ x ++ y) z w (t ++ ((x ++ (y ++ (z ++ []))) ++ w)) (simp (append_assoc, append-nil))
    (simp (append-nil, length-append) (omega arith)) (wrote-three d₀ at t x y (t ++ x ++ y) refl n p q s) f g

-- a listing's text is its first line, and a line for each row
pub found-text : (A : Array) (os : List ℕ) → found_text A os ≡ found_line (length os) ++ concat (map (row_text A.shape) os)
found-text A os = simp append_assoc
