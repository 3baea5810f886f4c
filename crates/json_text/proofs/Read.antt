-- A byte that `get` reads: what a test says of it, it says of the text's byte there.
use Rattle.std.proofs.Common.{◌≡◌, ℕ, Bool, List, get_or, sym, ap, ◌∙◌}
use Rattle.paper.specs.Grammar.{Bytes, among}

pub told_at : (c : Bytes) (s : List ℕ) (i b : ℕ) (r v : Bool) → b ≡ get_or s i 0 → r ≡ among c b → r ≡ v → among c (get_or s i 0) ≡ v
told_at c s i b r v e p q = sym (p ∙ ap (among c) e) ∙ q
