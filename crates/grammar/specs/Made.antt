-- Texts that are made of the table's parts, by any of its rules: what stands between the RFC's grammar and the machine.
use Rattle.std.specs.Prelude.{ℕ, ◌≡◌, true, List, [], ◌∷◌, ◌++◌}
use Rattle.paper.specs.Grammar.{Part, Rule, among, blank, optional, rules}

-- the rule is one of these
pub data OneOf (r : Rule) : List Rule → Type 0 where
  here : {rs : List Rule} → OneOf r (r ∷ rs)
  there : {q : Rule} {rs : List Rule} → OneOf r rs → OneOf r (q ∷ rs)

-- the text is made of these parts, one after the other: an optional part is left out, or a part begins with a byte by one of its rules and
-- goes on with the parts of that rule; after the last part only blanks stand
pub data Made : List Part → List ℕ → Type 0 where
  nothing : Made [] []
  space : {b : ℕ} {bs : List ℕ} → among blank b ≡ true → Made [] bs → Made [] (b ∷ bs)
  without : {g : Part} {gs : List Part} {bs : List ℕ} → optional g ≡ true → Made gs bs → Made (g ∷ gs) bs
  by : {g : Part} {gs : List Part} {b : ℕ} {bs : List ℕ} (r : Rule) → OneOf r (rules g) → among r.byte b ≡ true
      → Made (r.rest ++ gs) bs → Made (g ∷ gs) (b ∷ bs)
