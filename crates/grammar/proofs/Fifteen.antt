-- The rule of refusal 15, proved of the machine: it has no fault exactly where the text is one JSON object so nested; and where it has
-- one, the bytes before that place begin such an object and with the byte there they do not, or the text ends there and is not yet one.
use Rattle.std.specs.Prelude.{ℕ, ◌≡◌, List, Some}
use Rattle.std.proofs.Common.{sym, ◌∙◌, append_assoc, arith}
use Rattle.paper.specs.Grammar.{start}
use Rattle.paper.specs.Machine.{fault}
use Rattle.laws.specs.Tests.{no_none}
use Rattle.grammar.proofs.Faults.{broken}
use Rattle.grammar.specs.Fifteen.{start-sound, made-is, fault-none, FaultAt}

pub fault-some : (bs : List ℕ) (k : ℕ) → fault bs ≡ Some k → FaultAt bs k
fault-some bs k e =
    let v = broken start 1 bs k start-sound e in
    record {
      read = v.read;
      left = v.left;
      whole = v.whole;
      place = omega (arith, v.place);
      begins = (v.more, (made-is _).0 v.begins);
      stops = λ b rest q m. v.stops b rest m.0 q (rw append_assoc at ((made-is _).1 m.1));
      missing = λ q o. no_none k (sym ((fault-none bs).1 o) ∙ e);
    }
