-- Lists: numbers in a row, lists joined, what stands at an index, and what a loop stores one after the other.
use Rattle.std.specs.Prelude.{ℕ, zero, suc, ◌+◌, ◌-◌, ◌≤◌, ◌<◌, ◌≡◌, refl, Bool, true, false, List, [], ◌∷◌, ◌++◌, map, eqb, length, get_or, take, set, None, Some, Ok, Err}
use Rattle.std.specs.Option.{option_map}
use Rattle.std.proofs.Common.{sym, ap, subst, ◌∙◌, append_assoc, add-zero, zero-add, arith, eqb-true, get_or-take, get_or-set_same, get_or-set_other, length-take-le}
use Rattle.std.proofs.lemmas.Bool.{eqb-false}
use Rattle.std.proofs.lemmas.List.{length-map}
use Rattle.paper.specs.Refusals.{Res, ◌>>=◌}
use Rattle.paper.specs.Numbers.{nth, concat, from}

pub from-split : (k m n : ℕ) → from k (m + n) ≡ from k m ++ from (k + m) n
unfolding from
from-split k zero n = simp (zero-add, add-zero)
from-split k (suc m) n =
    let e : suc m + n ≡ suc (m + n) = omega arith in
    let g : suc k + m ≡ k + suc m = omega arith in
    rw e (ap (λ (r : List ℕ). k ∷ r) (from-split (suc k) m n ∙ ap (λ (j : ℕ). from (suc k) m ++ from j n) g))

pub concat-append : {C : Type 0} (xs ys : List (List C)) → concat (xs ++ ys) ≡ concat xs ++ concat ys
unfolding concat
concat-append [] ys = refl
concat-append (x ∷ xs) ys = ap (λ r. x ++ r) (concat-append xs ys) ∙ sym (append_assoc x (concat xs) (concat ys))

pub map-take : {A C : Type 0} (f : A → C) (j : ℕ) (l : List A) → map f (take j l) ≡ take j (map f l)
map-take f zero l = refl
map-take f (suc j) [] = refl
map-take f (suc j) (a ∷ l) = ap (λ (m : List _). f a ∷ m) (map-take f j l)

-- ---- at an index

-- what stands there does not hang on what would stand past the end
pub get_d_any : {A : Type 0} (l : List A) (i : ℕ) (d e : A) → i < length l → get_or l i d ≡ get_or l i e
get_d_any [] i d e h = absurd (omega arith)
get_d_any (a ∷ l) zero d e h = refl
get_d_any (a ∷ l) (suc i) d e h = get_d_any l i d e (omega arith)

pub get_or-mapped : {A C : Type 0} (f : A → C) (l : List A) (i : ℕ) (d : A) (e : C) → i < length l → get_or (map f l) i e ≡ f (get_or l i d)
get_or-mapped f [] i d e h = absurd (omega arith)
get_or-mapped f (a ∷ l) zero d e h = refl
get_or-mapped f (a ∷ l) (suc i) d e h = get_or-mapped f l i d e (omega arith)

-- past the end of a list there is nothing; from 1 to its end there is the element before that index
pub nth_past : {A : Type 0} (l : List A) (k : ℕ) → length l < k → nth l k ≡ None
nth_past l zero h = refl
nth_past [] (suc k) h = refl
nth_past (a ∷ l) (suc zero) h = absurd (omega arith)
nth_past (a ∷ l) (suc (suc k)) h = nth_past l (suc k) (omega arith)

pub nth-some : {A : Type 0} (l : List A) (k : ℕ) (d : A) → 1 ≤ k → k ≤ length l → nth l k ≡ Some (get_or l (k - 1) d)
nth-some l zero d h b = absurd (omega arith)
nth-some [] (suc k) d h b = absurd (omega arith)
nth-some (a ∷ l) (suc zero) d h b = refl
nth-some (a ∷ l) (suc (suc k)) d h b =
    let e : suc k - 1 ≡ k = omega arith in
    let g : suc (suc k) - 1 ≡ suc k = omega arith in
    rw g (nth-some l (suc k) d (omega arith) (omega arith) ∙ ap (λ (j : ℕ). Some (get_or l j d)) e)

pub nth-mapped : {A C : Type 0} (f : A → C) (l : List A) (n : ℕ) → nth (map f l) n ≡ option_map f (nth l n)
nth-mapped f l zero = refl
nth-mapped f [] (suc n) = refl
nth-mapped f (a ∷ l) (suc zero) = refl
nth-mapped f (a ∷ l) (suc (suc n)) = nth-mapped f l (suc n)

-- one more: it stands past those before, and they stay
pub nth_last : {A : Type 0} (l : List A) (x : A) → nth (l ++ (x ∷ [])) (suc (length l)) ≡ Some x
nth_last [] x = refl
nth_last (a ∷ l) x = nth_last l x

pub nth-others : {A : Type 0} (l : List A) (x : A) (n : ℕ) → (n ≡ suc (length l) → ⊥) → nth (l ++ (x ∷ [])) n ≡ nth l n
nth-others l x zero h = refl
nth-others [] x (suc zero) h = absurd (h refl)
nth-others [] x (suc (suc n)) h = refl
nth-others (a ∷ l) x (suc zero) h = refl
nth-others (a ∷ l) x (suc (suc n)) h = nth-others l x (suc n) (λ e. h (ap suc e))

-- the kth of the first n of a list, made into something else
pub nth-first : {A B : Type 0} (f : A → B) (l : List A) (d : A) (n k : ℕ) → 1 ≤ k → k ≤ n → n ≤ length l
    → nth (map f (take n l)) k ≡ Some (f (get_or l (k - 1) d))
nth-first f l d n k a b h =
    let c : length (take n l) ≡ n = length-take-le n l h in
    nth-some (map f (take n l)) k (f d) a (omega (arith, length-map (take n l) f))
    ∙ ap Some (get_or-mapped f (take n l) (k - 1) d (f d) (omega arith) ∙ ap f (get_or-take n l (k - 1) d (omega arith)))

-- ---- two lists, element by element

abbrev pub zipped : {A C D : Type 0} → (A → C → D) → List A → List C → List D
zipped f [] ys = []
zipped f (x ∷ xs) [] = []
zipped f (x ∷ xs) (y ∷ ys) = f x y ∷ zipped f xs ys

pub zipped-more : {A C D : Type 0} (f : A → C → D) (xs : List A) (ys : List C) (x : A) (y : C) → length xs ≡ length ys
    → zipped f (xs ++ (x ∷ [])) (ys ++ (y ∷ [])) ≡ zipped f xs ys ++ (f x y ∷ [])
zipped-more f [] [] x y e = refl
zipped-more f [] (b ∷ ys) x y e = absurd (omega arith)
zipped-more f (a ∷ xs) [] x y e = absurd (omega arith)
zipped-more f (a ∷ xs) (b ∷ ys) x y e = ap (λ (l : List _). f a b ∷ l) (zipped-more f xs ys x y (omega arith))

pub length-zipped : {A C D : Type 0} (f : A → C → D) (xs : List A) (ys : List C) → length xs ≡ length ys
    → length (zipped f xs ys) ≡ length xs
length-zipped f [] ys e = refl
length-zipped f (x ∷ xs) [] e = absurd (omega arith)
length-zipped f (x ∷ xs) (y ∷ ys) e = ap suc (length-zipped f xs ys (omega arith))

pub get_or-zipped : {A C D : Type 0} (f : A → C → D) (xs : List A) (ys : List C) (j : ℕ) (a : A) (c : C) (d : D) → j < length xs
    → length xs ≡ length ys
    → get_or (zipped f xs ys) j d ≡ f (get_or xs j a) (get_or ys j c)
get_or-zipped f [] ys j a c d h e = absurd (omega arith)
get_or-zipped f (x ∷ xs) [] j a c d h e = absurd (omega arith)
get_or-zipped f (x ∷ xs) (y ∷ ys) zero a c d h e = refl
get_or-zipped f (x ∷ xs) (y ∷ ys) (suc j) a c d h e = get_or-zipped f xs ys j a c d (omega arith) (omega arith)

-- ---- a loop's list

-- what was done, in front of what is still to do
unfoldable pub in_front_of : {A : Type 0} → List A → Res (List A) → Res (List A)
in_front_of done (Ok l) = Ok (done ++ l)
in_front_of done (Err r) = Err r

pub front-none : {A : Type 0} (m : Res (List A)) → in_front_of [] m ≡ m
unfolding in_front_of
front-none (Ok l) = refl
front-none (Err r) = refl

pub front-more : {A : Type 0} (done : List A) (a : A) (m : Res (List A))
    → in_front_of done (m >>= (λ l. Ok (a ∷ l))) ≡ in_front_of (done ++ (a ∷ [])) m
unfolding in_front_of
front-more done a (Ok l) = ap Ok (sym (append_assoc done (a ∷ []) l))
front-more done a (Err r) = refl

less : (j i : ℕ) → j < i + 1 → (j ≡ i → ⊥) → j < i
less j i h n = omega arith

-- what holds of the first i, and of what is stored at i, holds of the first i + 1
pub each_set : {A : Type 0} (P : ℕ → A → Type 0) (l : List A) (i : ℕ) (x d : A) → i < length l → ((j : ℕ) → j < i → P j (get_or l j d))
    → P i x
    → (j : ℕ) → j < i + 1 → P j (get_or (set l i x) j d)
each_set P l i x d h f q j b = by (eqb j i) refl
  where
    by : (t : Bool) → eqb j i ≡ t → P j (get_or (set l i x) j d)
    by true e = subst (λ (m : ℕ). P m (get_or (set l i x) m d)) (sym (eqb-true j i e)) (subst (P i) (sym (get_or-set_same l i x d h)) q)
    by false e = let n = eqb-false j i e in subst (P j) (sym (get_or-set_other l i j x d n)) (f j (less j i b n))
