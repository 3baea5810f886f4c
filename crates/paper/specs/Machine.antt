-- The grammar read byte by byte: the parts still to come, and where a text stops being the beginning of an object.
use Rattle.std.specs.Prelude.{ℕ, ◌+◌, Bool, true, false, List, [], ◌∷◌, ◌++◌, if◌then◌else◌, Option, None, Some}
use Rattle.std.specs.Option.{option_map}
use Rattle.paper.specs.Grammar.{Part, Rule, among, blank, optional, rules, start}

-- what is made of something that may not be there
abbrev pub given : {A B : Type 0} → Option A → B → (A → B) → B
given None b f = b
given (Some a) b f = f a

-- by the first rule that has the byte: the parts that follow it
unfoldable pub chosen : List Rule → ℕ → Option (List Part)
chosen [] b = None
chosen (r ∷ rs) b = if among r.byte b then Some r.rest else chosen rs b

-- a number ends before a byte that does not go on with it
unfoldable pub settled : List Part → ℕ → List Part
settled [] b = []
settled (g ∷ gs) b = if optional g then given (chosen (rules g) b) gs (λ ps. g ∷ gs) else g ∷ gs

-- the parts to come after the byte; after the last part, blanks
unfoldable pub move : List Part → ℕ → Option (List Part)
move [] b = if among blank b then Some [] else None
move (g ∷ gs) b = option_map (λ ps. ps ++ gs) (chosen (rules g) b)

abbrev pub step : List Part → ℕ → Option (List Part)
step gs b = move (settled gs b) b

-- no part is to come
abbrev pub complete : List Part → Bool
complete [] = true
complete (g ∷ gs) = false

-- from place i on: the place of the first byte with which the text no longer goes on, or one past its end where parts are missing
unfoldable pub fault_from : List Part → ℕ → List ℕ → Option ℕ
fault_from gs i [] = if complete gs then None else Some i
fault_from gs i (b ∷ bs) = given (step gs b) (Some i) (λ after. fault_from after (i + 1) bs)

abbrev pub fault : List ℕ → Option ℕ
fault bs = fault_from start 1 bs
