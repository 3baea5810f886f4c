-- Where the machine has a fault: the bytes before that place can be completed, and with the byte there they cannot, or the text ends there
-- and is not complete.
use Rattle.std.specs.Prelude.{ℕ, ◌+◌, ◌≡◌, Bool, true, false, List, [], ◌∷◌, ◌++◌, length, if◌then◌else◌, Option, None, Some}
use Rattle.std.proofs.Common.{sym, ap, ◌∙◌, arith}
use Rattle.laws.specs.Tests.{no_none, some_one}
use Rattle.grammar.specs.Made.{Made}
use Rattle.paper.specs.Grammar.{Part, among, blank, optional, rules}
use Rattle.paper.specs.Machine.{given, chosen, settled, move, step}
use Rattle.grammar.specs.Going.{chosen-rule, map-some}
use Rattle.grammar.specs.Tables.{loose, sound, rules-orderly, rule-orderly, orderly-sound}
use Rattle.grammar.specs.Single.{reads, followed, rest-sound}

-- ---- the parts stay in order

pub settled-sound : (gs : List Part) (b : ℕ) → sound gs ≡ true → sound (settled gs b) ≡ true
unfolding settled
settled-sound [] b s = s
settled-sound (g ∷ gs) b s = go (optional g) (chosen (rules g) b)
  where
    go : (t : Bool) (c : Option (List Part)) → sound (if t then given c gs (λ ps. g ∷ gs) else g ∷ gs) ≡ true
    go true None = rest-sound g gs s
    go true (Some ps) = s
    go false c = s

pub move-sound : (gs : List Part) (b : ℕ) (hs : List Part) → move gs b ≡ Some hs → sound gs ≡ true → sound hs ≡ true
unfolding move
move-sound [] b hs e s = go (among blank b) e
  where
    go : (t : Bool) → (if t then Some [] else None) ≡ Some hs → sound hs ≡ true
    go true f = rw (← some_one [] hs f) s
    go false f = absurd (no_none hs f)
move-sound (g ∷ gs) b hs e s =
    let v = map-some (λ ps. ps ++ gs) (chosen (rules g) b) hs e in
    let r = chosen-rule (rules g) b v.0 v.1 in
    let p : r.0.rest ++ gs ≡ hs = ap (λ ps. ps ++ gs) r.3 ∙ v.2 in
    rw p at (orderly-sound (loose g) r.0.rest gs (rule-orderly (loose g) r.0 (rules g) r.1 (rules-orderly g)) (rest-sound g gs s)
    (followed g gs s))

-- ---- where a text breaks off

pub record Broken (gs : List Part) (i : ℕ) (bs : List ℕ) (k : ℕ) : Type 0 where
  pub read : List ℕ
  pub left : List ℕ
  pub whole : bs ≡ read ++ left
  pub place : k ≡ i + length read
  pub more : List ℕ
  pub begins : Made gs (read ++ more)
  pub stops : (b : ℕ) (rest end : List ℕ) → left ≡ b ∷ rest → Made gs (read ++ (b ∷ end)) → ⊥
  pub missing : left ≡ [] → Made gs read → ⊥

pub none_made : (gs : List Part) (b : ℕ) (bs : List ℕ) → step gs b ≡ None → sound gs ≡ true → Made gs (b ∷ bs) → ⊥
none_made gs b bs h s m = let v = reads m s in no_none v.after (sym h ∙ v.stepped)

pub some-made : (gs : List Part) (b : ℕ) (ks : List Part) (bs : List ℕ) → step gs b ≡ Some ks → sound gs ≡ true → Made gs (b ∷ bs) → Made ks bs
some-made gs b ks bs h s m = let v = reads m s in rw (some_one v.after ks (sym v.stepped ∙ h)) at v.made

pub first-is : {A : Type 0} (a b : A) (l m : List A) → a ∷ l ≡ b ∷ m → a ≡ b
first-is a b l m e = cc

pub no-cons : {A : Type 0} (a : A) (l : List A) → [] ≡ a ∷ l → ⊥
no-cons a l e = let z : ◌≡◌ {A = ℕ} 0 1 = cc in omega arith
