-- Whether a byte is among some, range by range: inside the first range it is; outside, the other ranges tell.
use Rattle.std.specs.Prelude.{◌≡◌, ℕ, ◌<◌, ◌≤◌, Bool, true, false, ◌&&◌, T, leb, List, [], ◌∷◌, ◌==◌, ◌≢◌, nat_le}
use Rattle.std.proofs.Math.Path.{refl}
use Rattle.std.proofs.Common.{sym, subst, inl, inr, arith}
use borrow.Author.Tests.{le-leb, lt-leb, leb-true, eqb-true}
use mir.Val.{has_key}
use types.Run.{OneOf, hit}
use Rattle.paper.specs.Refusals.{between}
use Rattle.paper.specs.Grammar.{Bytes, among}
use Rattle.laws.specs.Tests.{and_left, and_right, and_none}

module _ (l h b : ℕ) (rs : Bytes) where
  pub in-range : l ≤ b → b ≤ h → among ((l, h) ∷ rs) b ≡ true
  unfolding among
  in-range i j = let p : leb l b ≡ true = le-leb l b i in let q : leb b h ≡ true = le-leb b h j in rw (p, q)

  pub below-range : b < l → among ((l, h) ∷ rs) b ≡ among rs b
  unfolding among
  below-range i = let p : leb l b ≡ false = lt-leb l b i in rw p

  pub above-range : h < b → among ((l, h) ∷ rs) b ≡ among rs b
  unfolding among
  above-range i = let p : leb b h ≡ false = lt-leb b h i in rw (p, and_none)

-- another byte than k
apart : (k b : ℕ) → (b ≢ k) → (p q : Bool) → nat_le k b ≡ p → nat_le b k ≡ q → between k k b ≡ false
apart k b n true true e f = absurd (n (let i : k ≤ b = leb-true k b e in let j : b ≤ k = leb-true b k f in omega arith))
apart k b n false q e f = rw e
apart k b n true false e f = rw (e, f)

differs : (k b : ℕ) → (b ≢ k) → between k k b ≡ false
differs k b n = apart k b n (nat_le k b) (nat_le b k) refl refl

pub not_byte : (k b : ℕ) (rs : Bytes) → (b ≢ k) → among ((k, k) ∷ rs) b ≡ among rs b
unfolding among
not_byte k b rs n = let e : between k k b ≡ false = differs k b n in rw e

-- ---- a byte that is one of a match's keys, or none of them

-- each key is among the bytes
abbrev pub all_among : Bytes → List ℕ → Bool
all_among rs [] = true
all_among rs (k ∷ ks) = among rs k && all_among rs ks

pub among-keys : (rs : Bytes) (ks : List ℕ) (b : ℕ) → all_among rs ks ≡ true → OneOf ks b → among rs b ≡ true
among-keys rs [] b e o = absurd o
among-keys rs (k ∷ []) b e o = rw o (and_left (among rs k) true e)
among-keys rs (k ∷ j ∷ ks) b e (inl o) = rw o (and_left (among rs k) (all_among rs (j ∷ ks)) e)
among-keys rs (k ∷ j ∷ ks) b e (inr o) = among-keys rs (j ∷ ks) b (and_right (among rs k) (all_among rs (j ∷ ks)) e) o

-- each range is one key
abbrev pub all_keys : List ℕ → Bytes → Bool
all_keys ks [] = true
all_keys ks (r ∷ rs) = (r.0 == r.1 && has_key ks r.0) && all_keys ks rs

module _ (ks : List ℕ) (b : ℕ) (n : OneOf ks b → ⊥) where
  not_key : (k h : ℕ) → (k == h && has_key ks k) ≡ true → between k h b ≡ false
  not_key k h e =
      let i : k ≡ h = eqb-true k h (and_left (k == h) (has_key ks k) e) in
      let j : T (has_key ks k) = subst T (sym (and_right (k == h) (has_key ks k) e)) tt in
      subst (λ (m : ℕ). between k m b ≡ false) i (differs k b (λ q. n (hit ks b (subst (λ (m : ℕ). T (has_key ks m)) (sym q) j))))

  pub among-others : (rs : Bytes) → all_keys ks rs ≡ true → among rs b ≡ false
  unfolding among
  among-others [] e = refl
  among-others (r ∷ rs) e =
      let k = r.0 == r.1 && has_key ks r.0 in
      let z : between r.0 r.1 b ≡ false = not_key r.0 r.1 (and_left k (all_keys ks rs) e) in
      rw z (among-others rs (and_right k (all_keys ks rs) e))
