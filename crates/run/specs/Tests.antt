-- What the calls test before the values: the bundle and the recipe, and what a page asks.
use Rattle.std.specs.Prelude.{ℕ, zero, suc, ◌+◌, ◌-◌, ◌*◌, ◌≤◌, ◌<◌, ◌≡◌, false, ◌&&◌, List, [], ◌∷◌, map, leb, get_or, take, Ok, Err}
use Rattle.std.proofs.Math.Path.{refl, sym, ap}
use Rattle.std.proofs.Common.{◌∙◌, arith}
use borrow.Author.Tests.{eq-eqb, ne_eqb, le-leb, lt-leb}
use Rattle.std.proofs.Math.ListN.{length, length-take}
use Rattle.std.proofs.lemmas.List.{length-map}
use Rattle.std.proofs.Math.Seq.{get_or-take}
use Rattle.paper.specs.declared.Sizes.{Sizes}
use Rattle.paper.specs.declared.Axis.{Axis}
use Rattle.paper.specs.declared.Cell.{Cell}
use Rattle.paper.specs.declared.Cell.TheVariants.{Empty}
use Rattle.paper.specs.declared.Head.{Head}
use Rattle.paper.specs.declared.Reading.{Reading}
use Rattle.paper.specs.declared.Refusal.{Refusal}
use Rattle.paper.specs.Limits.{most_arrays, cell_bytes, limit_bytes, BOOLEAN}
use Rattle.paper.specs.Refusals.{Res, refusal, between, unfit7, small_work10, bad_page11}
use Rattle.paper.specs.Numbers.{last_of}
use Rattle.paper.specs.Axes.{cells, Array}
use Rattle.paper.specs.Bundle.{version_in, sizes_in, read_bundle}
use Rattle.paper.specs.Recipe.{Planned, plan_recipe, cells_of_all, no_shape}
use Rattle.paper.specs.Listing.{planned, bytes_of_all, last_shape, list_tests}
use Rattle.paper.specs.Answers.{axes_of}
use Rattle.laws.specs.Cells.{OfKind}
use Rattle.laws.specs.Numbers.{Bytes}
use Rattle.laws.specs.Kinds.{nothing}
use Rattle.laws.specs.Tests.{and_none}
use Rattle.laws.specs.Answers.{no_head}
use Rattle.laws.specs.Lists.{get_d_any, get_or-mapped}
use Rattle.laws.specs.Passed.{recipe-passed}
use Rattle.roundtrip.specs.Valid.{EachOfKind, EachValid}
use Rattle.roundtrip.proofs.Reading.{bundle-read}
use Rattle.bundle.specs.Read.{array_at, ReadAll}
use Rattle.recipe.specs.declared.Operand.{Operand}
use Rattle.recipe.specs.declared.Plan.{Plan}
use Rattle.recipe.specs.Operands.{no_operand, shape_in}
use Rattle.recipe.specs.Stepped.{no_step, ResultLaid}
use Rattle.recipe.specs.Whole.{arrays_in, arrays_of, results_of, steps_of, Laid, recipe_over, Made, PlannedAll, steps-count, result-there, step-there, laid-there}
use Rattle.recipe.specs.Given.{read-shapes}
use Rattle.values.specs.Done.{shapes_in, AllWhole, no_planned}
use Rattle.values.specs.Found.{arrays_at, Setting, past}

-- ---- the bundle and the recipe

-- the plan is the paper's; and it is the setting of a run
pub record Accepted (B bs : List ℕ) (P : Plan) : Type 0 where
  pub said : Ok (arrays_at B P, steps_of bs P) ≡ planned B bs
  pub setting : Setting B bs P
  pub some : 1 ≤ P.count
  pub version : P.version ≡ version_in B

-- the same, or the first refusal
abbrev pub PlannedFor : List ℕ → List ℕ → Res Plan → Type 0
PlannedFor B bs (Ok P) = Accepted B bs P
PlannedFor B bs (Err x) = Err x ≡ planned B bs

-- every cell of a list is of the type, one by one
kinds-each : (t : ℕ) (cs : List Cell) → EachOfKind t cs → (i : ℕ) → OfKind t (get_or cs i Empty)
kinds-each t [] h i = nothing t
kinds-each t (c ∷ cs) h zero = h.0
kinds-each t (c ∷ cs) h (suc i) = kinds-each t cs h.1 i

valid-whole : (z : Sizes) (As : List Array) → EachValid z As → AllWhole As
valid-whole z [] h i b = absurd (omega arith)
valid-whole z (A ∷ As) h zero b = record {
  type = h.0.type;
  full = h.0.full;
  kept = kinds-each A.shape.type A.cells h.0.kinds;
}
valid-whole z (A ∷ As) h (suc i) b = valid-whole z As h.1 i (omega arith)

module _ (B bs : List ℕ) where
  pub read-refused : {x : Refusal} → Err x ≡ read_bundle B → PlannedFor B bs (Err x)
  unfolding planned
  read-refused q = rw (← q)

  module _ {R : Reading} (r : ReadAll B (Ok R)) where
    read-got : read_bundle B ≡ Ok (map (array_at B) (arrays_in R))
    read-got = sym r.arrays

    plan-is : plan_recipe (sizes_in B) (shapes_in (map (array_at B) (arrays_in R))) bs ≡ recipe_over R bs
    plan-is = rw (read-shapes B (arrays_in R), ← r.kept.version)

    recipe-refused : {x : Refusal} → Err x ≡ recipe_over R bs → PlannedFor B bs (Err x)
    unfolding planned
    recipe-refused h = let e = plan-is ∙ sym h in rw (read-got, e)

    accepted : {P : Plan} → Made R bs P → Bytes B → Bytes bs → Accepted B bs P
    unfolding planned
    accepted {P} v h_b hb =
        let a : arrays_of P ≡ arrays_in R = v.arrays in
        let e = plan-is ∙ sym v.said in
        let q = recipe-passed (sizes_in B) (map shape_in (arrays_of P)) bs (steps_of bs P) (rw (a, ← r.kept.version) (sym v.said)) in
        record {
          said = rw (a, read-got, e);
          setting = record {
            laid = v.laid;
            fit = λ j h.
                let l : j < R.count = omega (arith, ap length a, length-take R.count R.heads) in
                rw (a, get_or-take R.count R.heads j no_head l) (r.kept.fit j l);
            whole = rw a (valid-whole (sizes_in B) (map (array_at B) (arrays_in R))
                (bundle-read B (map (array_at B) (arrays_in R)) h_b read-got).valid.each);
            passed = q.1;
            bytes = hb;
          };
          some = omega (arith, q.0, steps-count v.laid);
          version = v.version ∙ r.kept.version;
        }

    pub both-planned : (m : Res Plan) → PlannedAll R bs m → Bytes B → Bytes bs → PlannedFor B bs m
    both-planned (Ok P) v h_b hb = accepted v h_b hb
    both-planned (Err x) v h_b hb = recipe-refused v

-- ---- the last result

-- the head of the last result, as the code finds it
abbrev pub last_in : Plan → Head
last_in P = (get_or P.operands (most_arrays + P.count) past).head

pub last-is : {A : Type 0} (d e : A) (l : List A) → 1 ≤ length l → last_of d l ≡ get_or l (length l - 1) e
unfolding last_of
last-is d e [] h = absurd (omega arith)
last-is d e (a ∷ []) h = refl
last-is d e (a ∷ b ∷ l) h =
    let z : suc (length l) - 1 ≡ length l = omega arith in
    let y : suc (suc (length l)) - 1 ≡ suc (length l) = omega arith in
    rw (y, ← z) (last-is a e (b ∷ l) (omega arith))

module _ {bs : List ℕ} {P : Plan} (v : Laid bs P) (some : 1 ≤ P.count) where
  abbrev j : ℕ
  j = P.count - 1

  before : j < P.count
  before = omega arith

  pub last-there : get_or (results_of P) j no_head ≡ last_in P
  last-there =
      let e : most_arrays + (j + 1) ≡ most_arrays + P.count = omega arith in
      result-there v j before ∙ ap (λ (i : ℕ). (get_or P.operands i (no_operand false)).head) e
      ∙ ap (λ (o : Operand). o.head) (get_d_any P.operands (most_arrays + P.count) (no_operand false) past
      (omega (arith, v.few, v.named.long)))

  pub last-laid : ResultLaid P.version bs (cells_of_all (take j (steps_of bs P)) * cell_bytes) (get_or P.steps j no_step) (last_in P)
  last-laid = rw last-there at (laid-there v j before)

  pub last_step : (get_or (steps_of bs P) j no_planned).shape ≡ shape_in (last_in P)
  last_step = ap (λ (p : Planned). p.shape) (step-there v j before no_planned) ∙ ap shape_in last-there

  -- its shape
  pub last-shape : last_shape (steps_of bs P) ≡ shape_in (last_in P)
  last-shape =
      let ps = steps_of bs P in
      let n = length-map ps (λ (p : Planned). p.shape) ∙ steps-count v in
      last-is no_shape no_shape (map (λ (p : Planned). p.shape) ps) (omega (arith, n))
      ∙ ap (λ (i : ℕ). get_or (map (λ (p : Planned). p.shape) ps) (i - 1) no_shape) n
      ∙ get_or-mapped (λ (p : Planned). p.shape) ps j no_planned no_shape (omega (arith, steps-count v))
      ∙ last_step

-- ---- a page's own tests

-- of the last of n results, which have so many bytes
pub record PageJudged (result : Head) (n bytes work start rows : ℕ) (r : Res (Unit {0})) : Type 0 where
  pub said : (ps : List Planned) → length ps ≡ n → last_shape ps ≡ shape_in result → bytes_of_all ps ≡ bytes
      → r ≡ list_tests ps work start rows

abbrev pub axes_in : Head → List Axis
axes_in h = axes_of h.form.extent

module _ {result : Head} {n bytes w o l : ℕ} where
  pub judged-type : (result.form.kind ≡ BOOLEAN → ⊥) → PageJudged result n bytes w o l (Err (refusal unfit7 n 0))
  unfolding list_tests
  judged-type h = record { said = λ ps m f q. rw (f, m, ne_eqb result.form.kind BOOLEAN h) }

  module _ (t : result.form.kind ≡ BOOLEAN) where
    pub judged-work : w < bytes → PageJudged result n bytes w o l (Err (refusal small_work10 0 0))
    unfolding list_tests
    judged-work h = record { said = λ ps m f q. rw (f, q, eq-eqb result.form.kind BOOLEAN t, lt-leb bytes w h) }

    module _ (b : bytes ≤ w) where
      page-unfit : (leb (limit_bytes + limit_bytes * length (axes_in result)) l && between 1 (cells (axes_in result) + 1) o) ≡ false
          → PageJudged result n bytes w o l (Err (refusal bad_page11 0 0))
      unfolding list_tests
      page-unfit h = record { said = λ ps m f q. rw (f, q, eq-eqb result.form.kind BOOLEAN t, le-leb bytes w b, h) }

      pub judged-rows : l < limit_bytes + limit_bytes * length (axes_in result) → PageJudged result n bytes w o l (Err (refusal bad_page11 0 0))
      judged-rows h = page-unfit (rw (lt-leb (limit_bytes + limit_bytes * length (axes_in result)) l h))

      pub judged-zero : o ≡ 0 → PageJudged result n bytes w o l (Err (refusal bad_page11 0 0))
      judged-zero h = page-unfit (rw h (and_none (leb (limit_bytes + limit_bytes * length (axes_in result)) l)))

      pub judged-past : cells (axes_in result) + 1 < o → PageJudged result n bytes w o l (Err (refusal bad_page11 0 0))
      judged-past h = page-unfit (rw (lt-leb o (cells (axes_in result) + 1) h, and_none (leb 1 o)) (and_none (leb (limit_bytes + limit_bytes * length (axes_in result)) l)))

      pub judged-good : limit_bytes + limit_bytes * length (axes_in result) ≤ l → (o ≡ 0 → ⊥) → o ≤ cells (axes_in result) + 1
          → PageJudged result n bytes w o l (Ok tt)
      unfolding list_tests
      judged-good g h k = record {
        said = λ ps m f q.
            rw (f, q, eq-eqb result.form.kind BOOLEAN t, le-leb bytes w b, le-leb (limit_bytes + limit_bytes * length (axes_in result)) l g, le-leb 1 o (omega arith), le-leb o (cells (axes_in result) + 1) k);
      }
