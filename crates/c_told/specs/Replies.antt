-- Replies: what one tells, and what is in the buffer once it is given; four numbers or a cell as a reply; and an answer that a reply tells,
-- given, is what is spoken.
use Rattle.std.specs.Prelude.{ℕ, ◌+◌, ◌*◌, ◌≤◌, ◌<◌, ◌≡◌, length, take, drop, set, replicate}
use Rattle.std.proofs.Math.Path.{refl, ap, subst}
use Rattle.std.proofs.Common.{sym, ◌∙◌, arith, take-take, take_all}
use mathlib.Core.List.{List, [], ◌∷◌, ◌++◌}
use Rattle.std.proofs.Math.ListN.{length-take}
use Rattle.paper.specs.declared.Cell.{Cell}
use Rattle.paper.specs.Limits.{limit_bytes, cell_bytes}
use Rattle.paper.specs.Refusals.{Res}
use Rattle.paper.specs.Numbers.{le_bytes, part, over}
use Rattle.paper.specs.Cells.{encode}
use Rattle.laws.specs.Put.{put}
use Rattle.c_told.specs.declared.Reply.{Reply}
use Rattle.c_told.specs.Said.{numbers, told, Spoken, answered, spoken}

-- the number and the bytes that a reply tells
pub record Tells (s : Spoken) (r : Reply) : Type 0 where
  pub number : r.number ≡ s.number
  pub short : r.long ≤ length r.bytes
  pub bytes : take r.long r.bytes ≡ s.said

-- a reply in a buffer that is lent
abbrev pub given : Reply → List ℕ → Spoken
given r said = record { number = r.number; said = told (take r.long r.bytes) said }

-- ---- as many bytes as there is room for

put-over : (x s : List ℕ) → put s 0 x ≡ over x s
put-over x s = let z : 0 + length x ≡ length x = omega arith in ap (λ (n : ℕ). x ++ drop n s) z

module _ (r : Reply) (s y : List ℕ) where
  abbrev n : ℕ
  n = r.long

  abbrev x : List ℕ
  x = r.bytes

  as-told : y ≡ told (take n x) s → ◌≡◌ {A = Spoken} (record { number = r.number; said = y }) (given r s)
  as-told e = λ i. record { number = r.number; said = e i }

  -- no room for all of them
  pub given-short : length s < n → y ≡ put s 0 (part 0 (length s) x)
      → ◌≡◌ {A = Spoken} (record { number = r.number; said = y }) (given r s)
  unfolding told
  given-short h e =
      as-told (e ∙ put-over (take (length s) x) s ∙ ap (λ (z : List ℕ). over z s) (sym (take-take (length s) n x (omega arith))))

  -- room for all
  pub given-whole : n ≤ length s → y ≡ put s 0 (part 0 n x) → ◌≡◌ {A = Spoken} (record { number = r.number; said = y }) (given r s)
  unfolding told
  given-whole h e =
      as-told (e ∙ put-over (take n x) s ∙ ap (λ (z : List ℕ). over z s)
      (sym (take_all (length s) (take n x) (omega (arith, length-take n x)))))

-- ---- four numbers, put one after the other

-- the bytes of the longest answer
abbrev pub most : ℕ
most = 4 * limit_bytes

abbrev pub four : (number long a b c d : ℕ) → Reply
four number long a b c d = record { number = number; long = long; bytes = numbers (a ∷ b ∷ c ∷ d ∷ []) }

pub four-put : (number long a b c d : ℕ) (w x y z : List ℕ)
    → w ≡ take 0 (replicate most 0) ++ le_bytes limit_bytes a ++ drop (0 + limit_bytes) (replicate most 0)
    → x ≡ take limit_bytes w ++ le_bytes limit_bytes b ++ drop (2 * limit_bytes) w
    → y ≡ take (2 * limit_bytes) x ++ le_bytes limit_bytes c ++ drop (3 * limit_bytes) x
    → z ≡ take (3 * limit_bytes) y ++ le_bytes limit_bytes d ++ drop most y
    → ◌≡◌ {A = Reply} (record { number = number; long = long; bytes = z }) (four number long a b c d)
unfolding numbers le_bytes
four-put number long a b c d w x y z p q r t =
    let e : z ≡ numbers (a ∷ b ∷ c ∷ d ∷ []) = rw (t, r, q, p) refl in λ i. record { number = number; long = long; bytes = e i }

module _ (number a b c d : ℕ) (r : Reply) where
  first : (long : ℕ) (bs : List ℕ) → long ≤ most → take long (numbers (a ∷ b ∷ c ∷ d ∷ [])) ≡ bs → r ≡ four number long a b c d
      → Tells (record { number = number; said = bs }) r
  unfolding numbers le_bytes
  first long bs h t e = subst (Tells (record { number = number; said = bs })) (sym e) (record { number = refl; short = h; bytes = t })

  pub one_told : r ≡ four number limit_bytes a b c d → Tells (record { number = number; said = numbers (a ∷ []) }) r
  unfolding numbers le_bytes
  one_told = first limit_bytes (numbers (a ∷ [])) (omega arith) refl

  pub two-told : r ≡ four number (2 * limit_bytes) a b c d → Tells (record { number = number; said = numbers (a ∷ b ∷ []) }) r
  unfolding numbers le_bytes
  two-told = first (2 * limit_bytes) (numbers (a ∷ b ∷ [])) (omega arith) refl

  pub three-told : r ≡ four number (3 * limit_bytes) a b c d → Tells (record { number = number; said = numbers (a ∷ b ∷ c ∷ []) }) r
  unfolding numbers le_bytes
  three-told = first (3 * limit_bytes) (numbers (a ∷ b ∷ c ∷ [])) (omega arith) refl

  pub four-told : r ≡ four number most a b c d → Tells (record { number = number; said = numbers (a ∷ b ∷ c ∷ d ∷ []) }) r
  unfolding numbers le_bytes
  four-told = first most (numbers (a ∷ b ∷ c ∷ d ∷ [])) (omega arith) refl

-- ---- a cell

module _ (c : Cell) (w : List ℕ) where
  pub cell-told : w ≡ take 0 (replicate most 0) ++ encode c ++ drop (0 + cell_bytes) (replicate most 0)
      → Tells (record { number = 0; said = encode c }) (record { number = 0; long = cell_bytes; bytes = w })
  unfolding encode le_bytes
  cell-told e = record { number = refl; short = rw e (omega arith); bytes = ap (take cell_bytes) e }

  pub held-told : w ≡ take 1 (set (replicate most 0) 0 1) ++ encode c ++ drop (1 + cell_bytes) (set (replicate most 0) 0 1)
      → Tells (record { number = 0; said = 1 ∷ encode c }) (record { number = 0; long = 1 + cell_bytes; bytes = w })
  unfolding encode le_bytes
  held-told e = record { number = refl; short = rw e (omega arith); bytes = ap (take (1 + cell_bytes)) e }

-- ---- an answer

-- the case of an answer tells what the answer does
pub arm : {A B : Type 0} (bytes : A → List ℕ) (said : B → Res A) (a b : B) (r : Reply) → a ≡ b → Tells (answered bytes (said b)) r
    → Tells (answered bytes (said a)) r
arm bytes said a b r e = subst (λ (x : _). Tells (answered bytes (said x)) r) (sym e)

pub told-as : {A : Type 0} (bytes : A → List ℕ) (m n : Res A) (r : Reply) → m ≡ n → Tells (answered bytes n) r → Tells (answered bytes m) r
told-as bytes = arm bytes (λ x. x)

-- told by a reply that is given, it is spoken
pub speaks : {A : Type 0} (bytes : A → List ℕ) (m n : Res A) (r : Reply) (s : List ℕ) (x : Spoken) → Tells (answered bytes m) r
    → m ≡ n → x ≡ given r s → x ≡ spoken bytes n s
unfolding spoken
speaks bytes m n r s x t e q = q ∙ (λ i. record { number = t.number i; said = told (t.bytes i) s })
    ∙ ap (λ (k : Res _). spoken bytes k s) e
