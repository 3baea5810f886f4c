-- What a call says: a number, and bytes in a buffer that is lent, as many as there is room for.
use Rattle.std.specs.Prelude.{ℕ, List, [], ◌∷◌, ◌++◌, leb, take, length, if◌then◌else◌, Ok, Err}
use Rattle.paper.specs.declared.Refusal.{Refusal}
use Rattle.paper.specs.Limits.{limit_bytes}
use Rattle.paper.specs.Refusals.{Res}
use Rattle.paper.specs.Numbers.{le_bytes, over}

-- numbers one after the other, four bytes each
unfoldable pub numbers : List ℕ → List ℕ
numbers [] = []
numbers (n ∷ ns) = le_bytes limit_bytes n ++ numbers ns

-- a refusal's place and ordinality
abbrev pub refusal_bytes : Refusal → List ℕ
refusal_bytes r = numbers (r.place ∷ r.ordinality ∷ [])

-- a buffer in which an answer is said: it begins with as many of the answer's bytes as there is room for, and the rest stays
unfoldable pub told : List ℕ → List ℕ → List ℕ
told answer said = over (take (length said) answer) said

-- the number that a call returns, and the bytes that it says or the buffer after it
pub record Spoken : Type 0 where
  pub number : ℕ
  pub said : List ℕ

abbrev pub refusing : Refusal → Spoken
refusing r = record { number = r.number; said = refusal_bytes r }

-- an answer's bytes under number 0; a refusal's under its number
abbrev pub answered : {A : Type 0} → (A → List ℕ) → Res A → Spoken
answered bytes (Ok a) = record { number = 0; said = bytes a }
answered bytes (Err r) = refusing r

-- and these in the buffer
unfoldable pub spoken : {A : Type 0} → (A → List ℕ) → Res A → List ℕ → Spoken
spoken bytes m said = record { number = (answered bytes m).number; said = told (answered bytes m).said said }

-- ---- a byte place

-- the largest number that four bytes hold
abbrev pub largest : ℕ
largest = 4294967295

-- a byte of a text, by its place: one that four bytes have no room for is told as the largest number; it never wraps
abbrev pub capped : ℕ → ℕ
capped i = if leb i largest then i else largest

abbrev pub capped_refusal : Refusal → Refusal
capped_refusal r = record { number = r.number; place = r.place; ordinality = capped r.ordinality }

-- an answer, its refusal's ordinality so told
abbrev pub capped_in : {A : Type 0} → Res A → Res A
capped_in (Ok a) = Ok a
capped_in (Err r) = Err (capped_refusal r)
