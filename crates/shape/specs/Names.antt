-- Names in an array with room for the most: the first of them without the one of an index, and those of a detail, each by a loop that has
-- come so far.
use Rattle.std.specs.Prelude.{ℕ, suc, ◌+◌, ◌*◌, ◌≤◌, ◌<◌, ◌≡◌, refl, List, [], ◌∷◌, ◌++◌, length, get_or, take, drop, set}
use Rattle.std.proofs.Common.{sym, ap, ap₂, ◌∙◌, append_assoc, mul-le-mul_right, arith, length-append, length-take, length-set, drop_of_length-le, take_at, take_all, length-take-le, drop-drop}
use Rattle.std.proofs.lemmas.List.{set_split}
use Rattle.paper.specs.declared.Name.{Name}
use Rattle.paper.specs.Limits.{most_axes, half_name}
use Rattle.paper.specs.Numbers.{le_of, part}
use Rattle.paper.specs.Axes.{no_name, without}
use Rattle.paper.specs.Bundle.{name_from}
use Rattle.paper.specs.Recipe.{renamed, each_anew}
use Rattle.positions.specs.Runs.{part-part}
use Rattle.shape.specs.Built.{take_more, without-it, without_other, without-none}
use Rattle.shape.specs.Renewed.{length-anew, anew-at, detail-after}

-- ---- a store

module _ {X : Type 0} (l : List X) (j : ℕ) (x : X) (h : j < length l) where
  split : set l j x ≡ take j l ++ (x ∷ drop (suc j) l)
  split = set_split l j x h

  long : length (take j l) ≡ j
  long = length-take-le j l (omega arith)

  -- those before stay; with what is stored there is one more
  pub take-before : take j (set l j x) ≡ take j l
  take-before = ap (take j) split ∙ take_at (take j l) (x ∷ drop (suc j) l) j long

  pub take-with : take (j + 1) (set l j x) ≡ take j l ++ (x ∷ [])
  take-with =
      ap (take (j + 1)) (split ∙ sym (append_assoc (take j l) (x ∷ []) (drop (suc j) l)))
      ∙ take_at (take j l ++ (x ∷ [])) (drop (suc j) l) (j + 1) (length-append (take j l) (x ∷ []) ∙ ap (λ (n : ℕ). n + 1) long)

-- ---- without one

-- of the first i names, without the one of index k, there are j, the first of the new ones
pub record Kept (k : ℕ) (N : List Name) (i j : ℕ) (new : List Name) : Type 0 where
  pub few : j ≤ i
  pub room : length new ≡ most_axes
  pub same : take j new ≡ without k (take i N)

pub kept-start : (k : ℕ) (N new : List Name) → length new ≡ most_axes → Kept k N 0 0 new
kept-start k N new h = record { few = omega arith; room = h; same = sym (without-none k) }

module _ (k : ℕ) (N : List Name) (i j : ℕ) (new : List Name) (v : Kept k N i j new) (here : i < length N) (few : length N ≤ most_axes) where
  first : length (take i N) ≡ i
  first = length-take-le i N (omega arith)

  abbrev x : Name
  x = get_or N i no_name

  room : j < length new
  room = omega (arith, v.few, v.room)

  pub kept-same : i + 1 ≡ k → Kept k N (i + 1) j (set new j (get_or N i no_name))
  kept-same e = record {
    few = omega (arith, v.few);
    room = length-set new j x ∙ v.room;
    same = take-before new j x room ∙ v.same ∙ sym (ap (without k) (take_more N i no_name here) ∙ without-it k (take i N) x (omega (arith, first, e)));
  }

  pub kept_more : (i + 1 ≡ k → ⊥) → Kept k N (i + 1) (j + 1) (set new j (get_or N i no_name))
  kept_more e = record {
    few = omega (arith, v.few);
    room = length-set new j x ∙ v.room;
    same =
        take-with new j x room ∙ ap (λ (l : List Name). l ++ (x ∷ [])) v.same
        ∙ sym (ap (without k) (take_more N i no_name here) ∙ without_other k (take i N) x (λ h. e (omega (arith, first, h))));
  }

pub kept-all : (k : ℕ) (N : List Name) (i j : ℕ) (new : List Name) → Kept k N i j new → length N ≤ i → length N ≤ most_axes → i ≤ most_axes
    → take (length (without k N)) new ≡ without k N
kept-all k N i j new v h f g =
    let e : take j new ≡ without k N = v.same ∙ ap (without k) (take_all i N h) in
    let n : length (without k N) ≡ j = ap length (sym e) ∙ length-take-le j new (omega (arith, v.few, v.room)) in
    ap (λ (m : ℕ). take m new) n ∙ e

-- ---- a name where it lies

pub short-name : (s : List ℕ) (at x : ℕ) → x ≡ le_of (part at half_name s)
    → record { first = x; last = 0 } ≡ name_from (part at half_name s)
short-name s at x e =
    let bs = part at half_name s in
    let l : length bs ≤ half_name = omega (arith, length-take half_name (drop at s)) in
    let p : part 0 half_name bs ≡ bs = take_all half_name bs l in
    let q : part half_name half_name bs ≡ [] = ap (take half_name) (drop_of_length-le bs {i = half_name} l) in
    λ i. record { first = (e ∙ sym (ap le_of p)) i; last = sym (ap le_of q) i }

pub long-name : (s : List ℕ) (at x y : ℕ) → x ≡ le_of (part at half_name s) → y ≡ le_of (part (at + half_name) half_name s)
    → record { first = x; last = y } ≡ name_from (part at (2 * half_name) s)
long-name s at x y e f =
    let z : at + 0 ≡ at = omega arith in
    let p = part-part s at (2 * half_name) 0 half_name (omega arith) ∙ ap (λ (j : ℕ). part j half_name s) z in
    let q = part-part s at (2 * half_name) half_name half_name (omega arith) in
    λ i. record { first = (e ∙ sym (ap le_of p)) i; last = (f ∙ sym (ap le_of q)) i }

-- ---- from a detail

-- the first i of as many new names of w bytes as there are axes
abbrev pub Renamed : ℕ → ℕ → List ℕ → ℕ → ℕ → List Name → Type 0
Renamed w rank s at i new = (length new ≡ most_axes) × ((N : List Name) → length N ≡ rank → take i new ≡ take i (renamed w N (drop at s)))

pub renamed-more : (w rank : ℕ) (s : List ℕ) (at i : ℕ) (new : List Name) (x : Name) → Renamed w rank s at i new → i < rank
    → rank ≤ most_axes
    → x ≡ name_from (part (at + i * w) w s) → Renamed w rank s at (i + 1) (set new i x)
renamed-more w rank s at i new x v h f e = (
  length-set new i x ∙ v.0,
  λ N n.
      let W : List Name = renamed w N (drop at s) in
      let m : length W ≡ length N = length-anew (λ (n : Name) d. name_from (take w d)) w N (drop at s) in
      let g : get_or W i no_name ≡ x =
      anew-at no_name (λ (n : Name) d. name_from (take w d)) w N (drop at s) i (omega arith)
      ∙ ap (λ (l : List ℕ). name_from (take w l)) (drop-drop (i * w) at s)
      ∙ sym e in
      take-with new i x (omega (arith, v.0)) ∙ ap₂ (λ (l : List Name) (y : Name). l ++ (y ∷ [])) (v.1 N n) (sym g)
      ∙ sym (take_more W i no_name (omega (arith, m, n))),
)

pub renamed-all : (w rank : ℕ) (s : List ℕ) (at i : ℕ) (new : List Name) → Renamed w rank s at i new → rank ≤ i → i ≤ rank
    → (N : List Name) → length N ≡ rank → take rank new ≡ renamed w N (drop at s)
renamed-all w rank s at i new v h g N n =
    let e : i ≡ rank = omega arith in
    let m : length (renamed w N (drop at s)) ≡ length N = length-anew (λ (n : Name) d. name_from (take w d)) w N (drop at s) in
    ap (λ (k : ℕ). take k new) (sym e) ∙ v.1 N n ∙ take_all i (renamed w N (drop at s)) (omega (arith, m, n))

-- a detail of d bytes has those of every name
names-after : (w : ℕ) (N : List Name) (s : List ℕ) (at d n : ℕ) → n + length N * w ≤ d
    → renamed w N (drop n (part at d s)) ≡ renamed w N (drop n (drop at s))
unfolding each_anew
names-after w [] s at d n h = refl
names-after w (x ∷ N) s at d n h =
    let e : w + length N * w ≡ suc (length N) * w = omega arith in
    let p = drop-drop w n (part at d s) in
    let q = drop-drop w n (drop at s) in
    ap₂ (λ (x : Name) (l : List Name). x ∷ l) (ap name_from (detail-after s at d n 0 w (omega (arith, e, h))))
    (ap (renamed w N) p ∙ names-after w N s at d (n + w) (omega (arith, e, h)) ∙ sym (ap (renamed w N) q))

pub names-in-detail : (w : ℕ) (N : List Name) (s : List ℕ) (at d : ℕ) → length N * w ≤ d
    → renamed w N (drop at s) ≡ renamed w N (part at d s)
names-in-detail w N s at d h = sym (names-after w N s at d 0 (omega (arith, h)))

-- and the bytes of each lie where all do
pub names-room : (i n w at l : ℕ) → i < n → at + n * w ≤ l → at + i * w + w ≤ l
names-room i n w at l h r =
    let e : i * w + w ≡ (i + 1) * w = omega arith in
    omega (arith, e, mul-le-mul_right {m = i + 1} {n = n} w (omega arith))
