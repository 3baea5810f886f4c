-- Digits two, four and eight at a time: the text of a number of a few digits, that of a longer one in parts, and how many digits it has.
use Rattle.std.specs.Prelude.{ℕ, ◌+◌, ◌*◌, ◌/◌, ◌%◌, ◌^◌, ◌≤◌, ◌<◌, ◌≡◌, Bool, true, false, List, [], ◌∷◌, ◌++◌, leb, length, set}
use Prim.Native.Char.{code}
use Rattle.std.proofs.Common.{ap, ap₂, ◌∙◌, append_assoc, add-zero, mul-le-mul_right, le-div_iff_mul-le, lt_of_le_of_lt, div-le_self, arith, leb-true, leb-false, set-set}
use Rattle.std.proofs.Math.Nat.{div-div-eq-div-mul}
use mir.Val.{bool_byte}
use Rattle.paper.specs.Rests.{digits}
use Rattle.laws.specs.Put.{put, put_byte}
use Rattle.cell.proofs.Runs.{stores_at-spliced}
use Rattle.decimal.specs.Digits.{digit, digits-one, digits_more}

-- the last two digits, the last four, the last eight
abbrev pub pair : ℕ → List ℕ
pair x = digit (x / 10) ∷ digit x ∷ []

abbrev pub four : ℕ → List ℕ
four x = pair (x / 100) ++ pair x

abbrev pub eight : ℕ → List ℕ
eight x = four (x / 10000) ++ four x

-- higher digits do not matter
pair-rest : (x y : ℕ) → x % 100 ≡ y % 100 → pair x ≡ pair y
pair-rest x y h =
    let e : digit (x / 10) ≡ digit (y / 10) = omega arith in
    let f : digit x ≡ digit y = omega arith in
    ap₂ (λ (a b : ℕ). a ∷ b ∷ []) e f

pub four-rest : (x y : ℕ) → x % 10000 ≡ y % 10000 → four x ≡ four y
four-rest x y h = ap₂ (λ (a b : List ℕ). a ++ b) (pair-rest (x / 100) (y / 100) (omega arith)) (pair-rest x y (omega arith))

pub eight-rest : (x y : ℕ) → x % 100000000 ≡ y % 100000000 → eight x ≡ eight y
eight-rest x y h = ap₂ (λ (a b : List ℕ). a ++ b) (four-rest (x / 10000) (y / 10000) (omega arith)) (four-rest x y (omega arith))

-- the two bytes that a pair's writer stores
pub pair-stored : (d : List ℕ) (at x : ℕ) → at + 2 ≤ length d
    → set (set d at (code "0" + x % 100 / 10)) (at + 1) (code "0" + x % 100 % 10) ≡ put d at (pair x)
pair-stored d at x h =
    let e : x % 100 / 10 ≡ x / 10 % 10 = omega arith in
    let f : x % 100 % 10 ≡ x % 10 = omega arith in
    rw (e, f) (stores_at-spliced (pair x) d at h)

-- ---- one digit or two

digits-two : (x : ℕ) → 10 ≤ x → x < 100 → digits 19 x ≡ pair x
digits-two x h l = digits_more x h (omega arith) ∙ rw (digits-one (x / 10) (omega arith))

-- what the test for two digits gives is the place of the last
pub last-place : {b : Bool} (x : ℕ) → leb 10 x ≡ b → x < 100 → bool_byte b + 1 ≡ length (digits 19 x)
last-place {b = true} x e h = rw (digits-two x (leb-true 10 x e) h)
last-place {b = false} x e h = rw (digits-one x (leb-false 10 x e))

-- the bytes that are stored: where there is one digit the last stands over the first
pub small-stored : {b : Bool} (d : List ℕ) (at x : ℕ) → leb 10 x ≡ b → x < 100 → at + length (digits 19 x) ≤ length d
    → set (set d at (code "0" + x / 10)) (at + bool_byte b) (digit x) ≡ put d at (digits 19 x)
small-stored {b = true} d at x e h l =
    let f = digits-two x (leb-true 10 x e) h in
    let g : x / 10 ≡ x / 10 % 10 = omega arith in
    rw (g, f) (stores_at-spliced (pair x) d at (rw f at l))
small-stored {b = false} d at x e h l =
    let f = digits-one x (leb-false 10 x e) in
    rw (add-zero, set-set, f) (put_byte d at (digit x) (omega (arith, ap length f)))

-- ---- more

-- the text of a number from b on is that of the number without its last digits, and these
abbrev Splits : ℕ → (ℕ → List ℕ) → Type 0
Splits b F = (x : ℕ) → b ≤ x → x < 2 ^ 64 → digits 19 x ≡ digits 19 (x / b) ++ F x

-- in three parts, and in two
module _ (F G : ℕ → List ℕ) (b c : ℕ) (f : Splits b F) (g : Splits c G) (p : 1 ≤ b) (q : 1 ≤ c) where
  three : (x : ℕ) → c * b ≤ x → x < 2 ^ 64 → digits 19 x ≡ digits 19 (x / (c * b)) ++ F (x / c) ++ G x
  three x h l =
      g x (omega (arith, mul-le-mul_right c p)) l
      ∙ rw (f (x / c) ((le-div_iff_mul-le q).1 (omega arith)) (lt_of_le_of_lt (div-le_self x c) l), div-div-eq-div-mul)

  two : Splits (c * b) (λ x. F (x / c) ++ G x)
  two x h l = three x h l ∙ append_assoc (digits 19 (x / (c * b))) (F (x / c)) (G x)

pub digits-pair : Splits 100 pair
digits-pair = two (λ x. digit x ∷ []) (λ x. digit x ∷ []) 10 10 digits_more digits_more (omega arith) (omega arith)

pub digits-fours : Splits 10000 four
digits-fours = two pair pair 100 100 digits-pair digits-pair (omega arith) (omega arith)

pub digits-eights : Splits 100000000 eight
digits-eights = two four four 10000 10000 digits-fours digits-fours (omega arith) (omega arith)

pub digits-twelves : (x : ℕ) → 1000000000000 ≤ x → x < 2 ^ 64
    → digits 19 x ≡ digits 19 (x / 1000000000000) ++ four (x / 100000000) ++ eight x
digits-twelves = three four eight 10000 100000000 digits-fours digits-eights (omega arith) (omega arith)

pub digits-sixteens : (x : ℕ) → 10000000000000000 ≤ x → x < 2 ^ 64
    → digits 19 x ≡ digits 19 (x / 10000000000000000) ++ eight (x / 100000000) ++ eight x
digits-sixteens = three eight eight 100000000 100000000 digits-eights digits-eights (omega arith) (omega arith)
