-- The two sides of a stretch as they are lent, and what it says of them that their tests are passed.
use Rattle.std.specs.Prelude.{ℕ, ◌*◌, ◌≡◌, refl, Bool, true, false, not, ◌&&◌, List, eqb, length, take, replicate, if◌then◌else◌, Some, None, Ok, Err}
use Rattle.std.specs.Option.{is_some}
use Rattle.std.proofs.Common.{sym, ap, ◌∙◌, arith, eqb-true, eq-eqb, ne_eqb}
use Rattle.std.proofs.lemmas.List.{length-replicate}
use Rattle.paper.specs.declared.Sizes.{Sizes}
use Rattle.paper.specs.declared.Name.{Name}
use Rattle.paper.specs.declared.Axis.{Axis}
use Rattle.paper.specs.declared.Extent.{Extent}
use Rattle.paper.specs.declared.Refusal.{Refusal}
use Rattle.paper.specs.declared.Move.TheVariants.{Glue}
use Rattle.paper.specs.declared.Operation.TheVariants.{Moves}
use Rattle.paper.specs.Limits.{cell_bytes}
use Rattle.paper.specs.Refusals.{Res, ◌>>=◌, ◌>>◌, ensure, refusal, between, bad_bytes1, bad_extent2, bad_axis5, unfit7, bad_result9}
use Rattle.paper.specs.Numbers.{none?}
use Rattle.paper.specs.Axes.{cells, good_extent}
use Rattle.paper.specs.Cells.{is_type}
use Rattle.paper.specs.Bundle.{names_fit}
use Rattle.paper.specs.Recipe.{agree, glued, good_result}
use Rattle.paper.specs.Stretch.{Side, judge, glue_tests}
use Rattle.paper.specs.Answers.{axes_of, names_for}
use Rattle.laws.specs.Tests.{and_right, between-true, ensure-got, ensured, bind-got}
use Rattle.laws.specs.Agreeing.{same-got}
use Rattle.laws.proofs.Glue.{Gluable, gluable, length-glued}
use Rattle.extent.specs.Judged.{good_cells, Small, good-small}
use Rattle.form.specs.Judged.{form_cells, Formed, formed}

-- a side as it is lent: its type, the names of its axes, its extent, its cell buffer
abbrev pub sided : ℕ → List Name → Extent → List ℕ → Side
sided t N e bs = record { type = t; names = names_for (axes_of e) N; axes = axes_of e; bytes = bs }

-- x is the paper's answer to the tests of a side with n bytes of cells, whatever these are, by a version's sizes
pub record SideJudged (z : Sizes) (t : ℕ) (N : List Name) (e : Extent) (n place : ℕ) (x : Res (Unit {0})) : Type 0 where
  pub said : (bs : List ℕ) → length bs ≡ n → x ≡ judge z place (sided t N e bs)

-- and to what gluing asks of two sides
pub record GlueJudged (t : ℕ) (M : List Name) (e : Extent) (u : ℕ) (N : List Name) (f : Extent) (k : ℕ) (x : Res (Unit {0})) : Type 0 where
  pub said : (bs cs : List ℕ) → x ≡ glue_tests (sided t M e bs) (sided u N f cs) k

-- ---- a side: its form, then its buffer

module _ (z : Sizes) (place : ℕ) (s : Side) where
  abbrev form : Res ℕ
  form = form_cells z s.type s.names s.axes place

  judge-form : judge z place s ≡ (form >>= λ n. ensure (eqb (length s.bytes) (n * cell_bytes)) bad_bytes1 place)
  unfolding judge form_cells
  judge-form = by (is_type s.type && between 1 z.axes (length s.axes)) (names_fit z s.names && good_extent s.names s.axes)
    where
      nine : ℕ → Res (Unit {0})
      nine n = ensure (eqb (length s.bytes) (n * cell_bytes)) bad_bytes1 place

      by : (p q : Bool) → (ensure p bad_bytes1 place >> (ensure q bad_extent2 place >> nine (cells s.axes)))
          ≡ ((ensure p bad_bytes1 place >> (ensure q bad_extent2 place >> Ok (cells s.axes))) >>= nine)
      by false q = refl
      by true false = refl
      by true true = refl

  -- what is known where its tests hold
  pub judge-passed : judge z place s ≡ Ok tt → Small s.axes × (length s.bytes ≡ cells s.axes * cell_bytes)
  judge-passed e =
      let b = bind-got form _ tt (sym judge-form ∙ e) in
      let f = formed z s.type s.names s.axes place b.0 b.1 in
      let q = eqb-true (length s.bytes) (b.0 * cell_bytes) (ensured (eqb (length s.bytes) (b.0 * cell_bytes)) bad_bytes1 place b.2) in
      (f.small, q ∙ ap (λ (m : ℕ). m * cell_bytes) f.number)

module _ (z : Sizes) (t : ℕ) (N : List Name) (e : Extent) (place : ℕ) where
  abbrev answer : Res ℕ
  answer = form_cells z t (names_for (axes_of e) N) (axes_of e) place

  pub side-formless : {n : ℕ} {x : Refusal} → Err x ≡ answer → SideJudged z t N e n place (Err x)
  side-formless h = record { said = λ bs q. rw (judge-form z place (sided t N e bs), sym h) }

  module _ {m : ℕ} (h : Ok m ≡ answer) where
    pub side-formed : Formed (axes_of e) m
    side-formed = formed z t (names_for (axes_of e) N) (axes_of e) place m (sym h)

    pub side-short : {n : ℕ} → (n ≡ m * cell_bytes → ⊥) → SideJudged z t N e n place (Err (refusal bad_bytes1 place 0))
    side-short o = record { said = λ bs q. rw (judge-form z place (sided t N e bs), sym h, ne_eqb (length bs) (m * cell_bytes) (λ x. o (sym q ∙ x))) }

    pub side-good : {n : ℕ} → n ≡ m * cell_bytes → SideJudged z t N e n place (Ok tt)
    side-good o = record { said = λ bs q. rw (judge-form z place (sided t N e bs), sym h, eq-eqb (length bs) (m * cell_bytes) (q ∙ o)) }

-- ---- what is known where the tests hold

-- a side so lent has good axes, and 9 bytes a cell
pub side-clean : {z : Sizes} {t : ℕ} {N : List Name} {e : Extent} {n place : ℕ} → SideJudged z t N e n place (Ok tt)
    → Small (axes_of e) × (n ≡ cells (axes_of e) * cell_bytes)
side-clean {z} {t} {N} {e} {n} {place} s =
    let l = length-replicate {A = ℕ} n 0 in
    let r = judge-passed z place (sided t N e (replicate n 0)) (sym (s.said (replicate n 0) l)) in
    (r.0, sym l ∙ r.1)

pub glue-passed : (l r : Side) (k : ℕ) → Small l.axes → glue_tests l r k ≡ Ok tt
    → Gluable k l.axes r.axes × Small (glued k l.axes r.axes)
unfolding glue_tests
glue-passed l r k s e =
    let E = l.axes in
    let F = r.axes in
    let G = glued k E F in
    let M = l.names in
    let i = ensure-got (between 1 (length E) k) bad_axis5 0 _ tt e in
    let t = ensure-got (eqb l.type r.type) unfit7 0 _ tt i.1 in
    let a = same-got (agree (Moves Glue) k M E r.names F) 0 _ tt t.1 in
    let g = and_right (not (none? G)) (good_extent M G) (ensured (good_result M G) bad_result9 0 a.1) in
    let b = between-true (length E) k i.0 in
    (gluable k M r.names E F b.0 b.1 s.sound a.0, good-small M G g)

-- the glued extent has an axis, the gluing axis
pub glued-some : {k : ℕ} {E F : List Axis} → Gluable k E F → none? (glued k E F) ≡ false
glued-some {k} {E} {F} g = ne_eqb (length (glued k E F)) 0 (λ q. omega (arith, g.one, g.first, length-glued k E F g))

-- it has as many axes as the left, whose names it has: so it is judged by its own axes and these
pub glued-cells : {k : ℕ} {E F G : List Axis} (N : List Name) → Gluable k E F → G ≡ glued k E F
    → good_cells (names_for G N) G ≡ good_cells (names_for E N) (glued k E F)
glued-cells {k} {E} {F} N g e =
    ap (λ (X : List Axis). good_cells (names_for X N) X) e
    ∙ ap (λ (n : ℕ). good_cells (take n N) (glued k E F)) (length-glued k E F g)

-- so it is good exactly if there is a number of cells
pub glued-good : {k : ℕ} {E F G : List Axis} (N : List Name) → Gluable k E F → G ≡ glued k E F
    → is_some (good_cells (names_for G N) G) ≡ good_extent (names_for E N) (glued k E F)
glued-good {k} {E} {F} N g e = ap is_some (glued-cells N g e) ∙ by (good_extent (names_for E N) (glued k E F))
  where
    by : (b : Bool) → is_some (if b then Some (cells (glued k E F)) else None) ≡ b
    by true = refl
    by false = refl
