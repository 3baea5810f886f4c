-- The whole bundle: its opening bytes, the loop over its arrays in remaining form with a law for each event, and the ways out of reading.
use Prim.Native.Nat.{ℕ, suc, ◌+◌, ◌-◌, ◌*◌, ◌≤◌, ◌<◌}
use Rattle.std.proofs.Math.Path.{◌≡◌, refl, sym, ap, ap₂, subst}
use Rattle.std.proofs.Common.{◌∙◌, eq-eqb, ne_eqb, length-drop, length-set, take-append-drop}
use Rattle.std.specs.Prelude.{Bool, eqb, get_or, set, Ok, Err, Some, None}
use Rattle.std.proofs.Math.Bool.{true, false}
use mathlib.Core.List.{List, [], ◌∷◌, ◌++◌, map, map-append, append_assoc, append-nil}
use native.Mathlib.Omega.{arith}
use Rattle.std.proofs.Math.ListN.{length, take, drop, replicate, get_or-eq_default}
use Rattle.std.proofs.lemmas.List.{length-map}
use Rattle.std.proofs.Math.Seq.{length-take-le}
use Rattle.paper.specs.declared.Version.{Version}
use Rattle.paper.specs.declared.Sizes.{Sizes}
use Rattle.paper.specs.declared.Head.{Head}
use Rattle.paper.specs.declared.Refusal.{Refusal}
use Rattle.paper.specs.Limits.{most_arrays, type_bytes, cell_bytes, sizes_of}
use Rattle.paper.specs.Refusals.{Res, ◌>>=◌, ◌>>◌, refusal, ensure, between, bad_bytes1}
use Rattle.paper.specs.Numbers.{same}
use Rattle.paper.specs.Axes.{Shape, Array}
use Rattle.paper.specs.Bundle.{mark, mark_bytes, version_in, sizes_in, read_array, read_arrays, read_as, read_bundle}
use Rattle.paper.specs.Answers.{shape_of, lying_from, reading, read_said}
use Rattle.laws.specs.Lists.{each_set}
use Rattle.laws.specs.Tests.{between-true}
use Rattle.laws.specs.Answers.{head_of, no_head}
use Rattle.bundle.specs.Front.{front-more, blank-more}
use Rattle.bundle.specs.Read.{cells_in, axes_in, array_at, end_of, Fit, ReadArray, read_rest, Begun, Opened, AllFit, AllRanked, ReadAll}

-- what a head says: a shape, and the byte at which the cells begin
abbrev pub head_said : Head → Shape × ℕ
head_said h = (shape_of h.form, h.at)

-- heads of arrays that lie one after the other, from byte i up to byte e
abbrev pub LiesFrom : Sizes → ℕ → List Head → ℕ → Type 0
LiesFrom z i [] e = i ≡ e
LiesFrom z i (h ∷ hs) e = (h.at ≡ i + (type_bytes + axes_in h * z.axis)) × LiesFrom z (h.at + cells_in h.form * cell_bytes) hs e

lies_more : (z : Sizes) (i : ℕ) (hs : List Head) (at : ℕ) (h : Head) → LiesFrom z i hs at → h.at ≡ at + (type_bytes + axes_in h * z.axis)
    → LiesFrom z i (hs ++ (h ∷ [])) (h.at + cells_in h.form * cell_bytes)
lies_more z i [] at h l a = (subst (λ (j : ℕ). h.at ≡ j + (type_bytes + axes_in h * z.axis)) (sym l) a, refl)
lies_more z i (x ∷ hs) at h l a = (l.0, lies_more z (x.at + cells_in x.form * cell_bytes) hs at h l.1 a)

lies-said : (z : Sizes) (bs : List ℕ) (i : ℕ) (hs : List Head) (e : ℕ) → LiesFrom z i hs e
    → map head_said hs ≡ lying_from z i (map (array_at bs) hs)
unfolding lying_from array_at
lies-said z bs i [] e l = refl
lies-said z bs i (h ∷ hs) e l =
    ap₂ (λ (x : ℕ) (m : List (Shape × ℕ)). (shape_of h.form, x) ∷ m) l.0
    (lies-said z bs (h.at + cells_in h.form * cell_bytes) hs e l.1
    ∙ ap (λ (j : ℕ). lying_from z (j + cells_in h.form * cell_bytes) (map (array_at bs) hs)) l.0)

-- ---- arrays in a loop

-- arrays read before, in front of those read now
unfoldable pub before : List Array → Res (List Array × List ℕ) → Res (List Array × List ℕ)
before done (Ok p) = Ok (done ++ p.0, p.1)
before done (Err r) = Err r

joined : (done : List Array) (A : Array) (m : Res (List Array × List ℕ))
    → before done (m >>= (λ p. Ok (A ∷ p.0, p.1))) ≡ before (done ++ (A ∷ [])) m
unfolding before
joined done A (Ok p) = ap (λ (l : List Array). Ok (l, p.1)) (sym (append_assoc done (A ∷ []) p.0))
joined done A (Err r) = refl

before-none : (m : Res (List Array × List ℕ)) → before [] m ≡ m
unfolding before
before-none (Ok p) = refl
before-none (Err r) = refl

-- i of n arrays read, their heads the first i, and the bytes from `at` on to come
pub record Loop (z : Sizes) (s : List ℕ) (n i at : ℕ) (heads : List Head) : Type 0 where
  pub turns : i ≤ n
  pub few : n ≤ most_arrays
  pub room : at ≤ length s
  pub long : length heads ≡ most_arrays
  pub arrays : before (map (array_at s) (take i heads)) (read_arrays z (i + 1) (n - i) (drop at s))
      ≡ read_arrays z 1 n (drop (mark_bytes + 1) s)
  pub fit : AllFit s i heads
  pub lies : LiesFrom z (mark_bytes + 1) (take i heads) at
  pub tidy : map head_of (map head_said (take i heads)) ≡ take i heads
  pub blank : drop i heads ≡ replicate (most_arrays - i) no_head
  pub ranks : AllRanked z i heads

pub loop-start : (z : Sizes) (s : List ℕ) (n : ℕ) → n ≤ most_arrays → mark_bytes + 1 ≤ length s
    → Loop z s n 0 (mark_bytes + 1) (replicate most_arrays no_head)
loop-start z s n h l =
    let e : n - 0 ≡ n = omega arith in
    record {
      turns = omega arith;
      few = h;
      room = l;
      long = refl;
      arrays = rw e (before-none _);
      fit = λ j k. absurd (omega arith);
      lies = refl;
      tidy = refl;
      blank = refl;
      ranks = λ j k. absurd (omega arith);
    }

module _ {z : Sizes} {s : List ℕ} {n i at : ℕ} {l : List Head} (v : Loop z s n i at l) (h : i < n) where
  -- one array more
  module _ {r : Head} (e : ReadArray z s at (i + 1) r) where
    within : i < length l
    within = omega (arith, v.few, v.long)

    first : take (i + 1) (set l i r) ≡ take i l ++ (r ∷ [])
    first = front-more l i r within

    more : before (map (array_at s) (take (i + 1) (set l i r))) (read_arrays z (i + 1 + 1) (n - (i + 1)) (drop (end_of r) s))
        ≡ before (map (array_at s) (take i l)) (read_arrays z (i + 1) (n - i) (drop at s))
    unfolding read_arrays
    more =
        let f : n - i ≡ suc (n - (i + 1)) = omega arith in
        rw (f, e.said, first, map-append (array_at s) (take i l) (r ∷ []))
        (sym (joined (map (array_at s) (take i l)) (array_at s r) _))

    pub loop-more : Loop z s n (i + 1) (end_of r) (set l i r)
    loop-more =
        let c : r.at + cells_in r.form * cell_bytes ≡ end_of r = ap (λ (j : ℕ). r.at + j * cell_bytes) (sym e.fit.counted) in
        record {
          turns = omega arith;
          few = v.few;
          room = omega (arith, c, e.fit.fits);
          long = length-set l i r ∙ v.long;
          arrays = more ∙ v.arrays;
          fit = each_set (λ j x. Fit s x) l i r no_head within v.fit e.fit;
          lies = rw (first, ← c) (lies_more z (mark_bytes + 1) (take i l) at r v.lies e.begins);
          tidy =
              subst (λ (hs : List Head). map head_of (map head_said hs) ≡ hs) (sym first)
              (ap (map head_of) (map-append head_said (take i l) (r ∷ [])) ∙ map-append head_of (map head_said (take i l)) (head_said r ∷ [])
              ∙ ap₂ (λ (x : List Head) (y : Head). x ++ (y ∷ [])) v.tidy (sym e.tidy));
          blank = blank-more l i r most_arrays no_head (omega (arith, v.few)) v.blank;
          ranks = each_set (λ j x. axes_in x ≤ z.axes) l i r no_head within v.ranks e.rank;
        }

  -- an array that is refused
  pub loop-refused : {x : Refusal} → Err x ≡ read_array z (i + 1) (drop at s) → Err x ≡ read_arrays z 1 n (drop (mark_bytes + 1) s)
  unfolding read_arrays before
  loop-refused {x} e =
      let f : n - i ≡ suc (n - (i + 1)) = omega arith in
      let w : Err x ≡ before (map (array_at s) (take i l)) (read_arrays z (i + 1) (n - i) (drop at s)) = rw (f, ← e) in
      w ∙ v.arrays

-- all read
module _ {z : Sizes} {s : List ℕ} {n i at : ℕ} {l : List Head} (v : Loop z s n i at l) (h : n ≤ i) where
  all_done : i ≡ n
  all_done = omega (arith, v.turns)

  pub loop-end : Ok (map (array_at s) (take n l), drop at s) ≡ read_arrays z 1 n (drop (mark_bytes + 1) s)
  unfolding read_arrays before
  loop-end =
      let g : n - n ≡ 0 = omega arith in
      ap (λ (m : List Array). Ok (m, drop at s)) (sym (append-nil _)) ∙ (rw (all_done, g) at v.arrays)

-- ---- an answer that is a refusal

pub all-refused : {bs : List ℕ} {x : Refusal} → Err x ≡ read_bundle bs → ReadAll bs (Err x)
unfolding reading
all-refused {bs} {x} q =
    record {
      said = ap (λ (m : Res (List Array)). m >>= (λ As. Ok (lying_from (sizes_in bs) (mark_bytes + 1) As))) q;
      tidy = refl;
      arrays = q;
      kept = tt;
    }

-- ---- the opening bytes

module _ (z : Sizes) (s : List ℕ) where
  pub opened-short : length s < mark_bytes + 1 → Opened z s None
  unfolding read_as
  opened-short h = rw (get_or-eq_default s 0 {n = mark_bytes} (omega arith)) (by (same (take mark_bytes s) (mark z)))
    where
      by : (b : Bool) → ◌≡◌ {A = Res (List Array)} (Err (refusal bad_bytes1 0 0))
          (ensure b bad_bytes1 0 >> Err (refusal bad_bytes1 0 0))
      by true = refl
      by false = refl

  pub opened-mark : same (take mark_bytes s) (mark z) ≡ false → Opened z s None
  unfolding read_as
  opened-mark e = rw e

  module _ (m : same (take mark_bytes s) (mark z) ≡ true) (n : ℕ) (en : n ≡ get_or s mark_bytes 0) where
    pub opened-count : between 1 most_arrays n ≡ false → Opened z s None
    unfolding read_as
    opened-count f = rw (m, ← en, f)

    pub opened-good : between 1 most_arrays n ≡ true → mark_bytes + 1 ≤ length s → Opened z s (Some n)
    unfolding read_as
    opened-good f l = record { few = (between-true most_arrays n f).1; long = l; rest = rw (m, ← en, f) }

-- ---- the bundle

-- by the sizes of the version v that it names
module _ (s : List ℕ) {v : Version} (ev : v ≡ version_in s) where
  by-version : read_as (sizes_of v) s ≡ read_bundle s
  by-version = ap (λ (x : Version). read_as (sizes_of x) s) ev

  pub bundle-bad : Opened (sizes_of v) s None → Err (refusal bad_bytes1 0 0) ≡ read_bundle s
  bundle-bad o = o ∙ by-version

  module _ {n : ℕ} (o : Begun (sizes_of v) s n) where
    pub bundle-refused : {x : Refusal} → Err x ≡ read_arrays (sizes_of v) 1 n (drop (mark_bytes + 1) s) → Err x ≡ read_bundle s
    bundle-refused e = sym (o.rest ∙ rw (← e)) ∙ by-version

    module _ {i at : ℕ} {l : List Head} (w : Loop (sizes_of v) s n i at l) (h : n ≤ i) where
      pub bundle-left : at < length s → Err (refusal bad_bytes1 0 0) ≡ read_bundle s
      bundle-left b =
          let e : eqb (length s - at) 0 ≡ false = ne_eqb (length s - at) 0 (λ e. omega arith) in
          sym (o.rest ∙ rw (← loop-end w h, length-drop at s, e)) ∙ by-version

      bundle-got : length s ≤ at → Ok (map (array_at s) (take n l)) ≡ read_bundle s
      bundle-got b =
          let e : eqb (length s - at) 0 ≡ true = eq-eqb (length s - at) 0 (omega arith) in
          sym (o.rest ∙ rw (← loop-end w h, length-drop at s, e)) ∙ by-version

      pub bundle-read : length s ≤ at → ReadAll s (Ok (record { version = v; count = n; heads = l }))
      unfolding reading
      bundle-read b =
          let d = all_done w h in
          let q = bundle-got b in
          let hs : List Head = take n l in
          let lies : LiesFrom (sizes_of v) (mark_bytes + 1) hs at = subst (λ (j : ℕ). LiesFrom (sizes_of v) (mark_bytes + 1) (take j l) at) d w.lies in
          let tidy : map head_of (map head_said hs) ≡ hs = subst (λ (j : ℕ). map head_of (map head_said (take j l)) ≡ take j l) d w.tidy in
          let blank : drop n l ≡ replicate (most_arrays - n) no_head =
          subst (λ (j : ℕ). drop j l ≡ replicate (most_arrays - j) no_head) d w.blank in
          let c : n ≡ length (map head_said hs) = sym (length-map hs head_said ∙ length-take-le n l (omega (arith, w.few, w.long))) in
          let x : l ≡ map head_of (map head_said hs) ++ replicate (most_arrays - length (map head_said hs)) no_head =
          sym (take-append-drop n l)
          ∙ ap₂ (λ (a b : List Head). a ++ b) (sym tidy) (blank ∙ ap (λ (j : ℕ). replicate (most_arrays - j) no_head) c) in
          record {
            said =
                ap Ok (lies-said (sizes_of v) s (mark_bytes + 1) hs at lies)
                ∙ ap (λ (y : Version). Ok (lying_from (sizes_of y) (mark_bytes + 1) (map (array_at s) hs))) ev
                ∙ ap (λ (m : Res (List Array)). m >>= (λ As. Ok (lying_from (sizes_in s) (mark_bytes + 1) As))) q;
            tidy = λ j. Ok (record { version = ev j; count = c j; heads = x j });
            arrays = q;
            kept = record {
              version = ev;
              room = omega (arith, w.few, w.long);
              few = w.few;
              fit = subst (λ (j : ℕ). AllFit s j l) d w.fit;
              ranks = subst (λ (j : ℕ). AllRanked (sizes_of v) j l) d w.ranks;
            };
          }
