-- The rule of refusal 15, proved of the machine: it has no fault exactly where the text is one JSON object so nested; and where it has
-- one, the bytes before that place begin such an object and with the byte there they do not, or the text ends there and is not yet one.
use Rattle.std.specs.Prelude.{ℕ, ◌+◌, ◌≡◌, refl, true, ◌↔◌, List, [], ◌∷◌, ◌++◌, length, Option, None, Some}
use Rattle.std.proofs.Common.{sym, ◌∙◌}
use Rattle.paper.specs.Grammar.{start, levels_inside}
use Rattle.paper.specs.Rfc.{JsonObject, Begins}
use Rattle.paper.specs.Machine.{fault}
use Rattle.laws.specs.Tests.{no_none}
use Rattle.grammar.specs.Made.{Made}
use Rattle.grammar.specs.Going.{faultless-made}
use Rattle.grammar.specs.Tables.{loose, is_value, full, sound}
use Rattle.grammar.specs.Single.{made-faultless}
use Rattle.grammar.specs.Generated.{generated-made}
use Rattle.grammar.specs.Printed.{made-generated}

pub start-sound : sound start ≡ true
unfolding sound loose is_value full
start-sound = refl

-- the table's texts are the RFC's
pub made-is : (bs : List ℕ) → Made start bs ↔ JsonObject bs
made-is bs = (made-generated levels_inside bs, generated-made)

-- no fault exactly where the text is one object
pub fault-none : (bs : List ℕ) → (fault bs ≡ None) ↔ JsonObject bs
fault-none bs = ((λ e. (made-is bs).0 (faultless-made start 1 bs e)), λ o. made-faultless start 1 bs start-sound ((made-is bs).1 o))

-- a fault at place k: the text is `read` and then `left`, and k is the place of the first byte left, or one past the end
pub record FaultAt (bs : List ℕ) (k : ℕ) : Type 0 where
  pub read : List ℕ
  pub left : List ℕ
  pub whole : bs ≡ read ++ left
  pub place : k ≡ length read + 1
  pub begins : Begins read
  pub stops : (b : ℕ) (rest : List ℕ) → left ≡ b ∷ rest → Begins (read ++ (b ∷ [])) → ⊥
  pub missing : left ≡ [] → JsonObject bs → ⊥

-- so every text is decided
pub fault-decides : (bs : List ℕ) → Dec (JsonObject bs)
fault-decides bs = go (fault bs) refl
  where
    go : (o : Option ℕ) → fault bs ≡ o → Dec (JsonObject bs)
    go None h = yes ((fault-none bs).0 h)
    go (Some k) h = no (λ m. no_none k (sym ((fault-none bs).1 m) ∙ h))
