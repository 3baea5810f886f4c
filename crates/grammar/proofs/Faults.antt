-- Where the machine has a fault: the bytes before that place can be completed, and with the byte there they cannot, or the text ends there
-- and is not complete.
use Rattle.std.specs.Prelude.{ℕ, ◌+◌, ◌≡◌, refl, Bool, true, false, List, [], ◌∷◌, ◌++◌, if◌then◌else◌, Option, None, Some}
use Rattle.std.proofs.Common.{sym, ap, ◌∙◌, arith}
use Rattle.laws.specs.Tests.{no_none, some_one}
use Rattle.paper.specs.Grammar.{Part}
use Rattle.paper.specs.Machine.{given, settled, step, complete, fault_from}
use Rattle.grammar.specs.Going.{step-made}
use Rattle.grammar.specs.Tables.{no_true, sound}
use Rattle.grammar.specs.Single.{all_read}
use Rattle.grammar.specs.Finish.{finish_all}
use Rattle.grammar.proofs.Finish.{finished-all}
use Rattle.grammar.specs.Faults.{settled-sound, move-sound, Broken, none_made, some-made, first-is, no-cons}

pub broken : (gs : List Part) (i : ℕ) (bs : List ℕ) (k : ℕ) → sound gs ≡ true → fault_from gs i bs ≡ Some k → Broken gs i bs k
unfolding fault_from
broken gs i [] k s e = go (complete gs) refl e
  where
    go : (t : Bool) → complete gs ≡ t → (if t then None else Some i) ≡ Some k → Broken gs i [] k
    go true h f = absurd (no_none k f)
    go false h f =
        let p : i ≡ k = some_one i k f in
        record {
          read = [];
          left = [];
          whole = refl;
          place = omega arith;
          more = finish_all gs;
          begins = finished-all gs s;
          stops = λ b rest end q m. absurd (no-cons b rest q);
          missing = λ q m. no_true (sym h ∙ all_read gs s m);
        }
broken gs i (b ∷ bs) k s e = go (step gs b) refl e (λ ks t f. broken ks (i + 1) bs k t f)
  where
    go : (o : Option (List Part)) → step gs b ≡ o → given o (Some i) (λ ks. fault_from ks (i + 1) bs) ≡ Some k
        → ((ks : List Part) → sound ks ≡ true → fault_from ks (i + 1) bs ≡ Some k → Broken ks (i + 1) bs k) → Broken gs i (b ∷ bs) k
    go None h f ih =
        let p : i ≡ k = some_one i k f in
        record {
          read = [];
          left = b ∷ bs;
          whole = refl;
          place = omega arith;
          more = finish_all gs;
          begins = finished-all gs s;
          stops = λ c rest end q m. none_made gs b end h s (rw (← first-is b c bs rest q) at m);
          missing = λ q m. no-cons b bs (sym q);
        }
    go (Some ks) h f ih =
        let v = ih ks (move-sound (settled gs b) b ks h (settled-sound gs b s)) f in
        record {
          read = b ∷ v.read;
          left = v.left;
          whole = ap (λ l. b ∷ l) v.whole;
          place = omega (arith, v.place);
          more = v.more;
          begins = step-made gs b ks (v.read ++ v.more) h v.begins;
          stops = λ c rest end q m. v.stops c rest end q (some-made gs b ks (v.read ++ (c ∷ end)) h s m);
          missing = λ q m. v.missing q (some-made gs b ks v.read h s m);
        }
