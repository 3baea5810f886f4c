-- What is told before anything is run: the figures of a plan, and the head of the last result, which the plan's last operand has.
use Rattle.std.specs.Prelude.{ℕ, ◌-◌, ◌≤◌, ◌<◌, ◌≡◌, List, leb, length, drop, replicate, Ok, Err}
use Rattle.std.proofs.Math.Path.{refl, sym}
use Rattle.std.proofs.Common.{ap, ◌∙◌, mul-le-mul_right, arith, length-append, length-drop}
use borrow.Author.Tests.{le-leb, lt-leb}
use Rattle.std.proofs.lemmas.List.{length-replicate, length-map}
use Rattle.paper.specs.declared.Sizes.{Sizes}
use Rattle.paper.specs.declared.Name.{Name}
use Rattle.paper.specs.declared.Axis.{Axis}
use Rattle.paper.specs.declared.Refusal.{Refusal}
use Rattle.paper.specs.Limits.{most_cells, sizes_of}
use Rattle.paper.specs.Refusals.{Res, ◌>>=◌, ◌>>◌, refusal, ensure, small_output14}
use Rattle.paper.specs.Numbers.{over}
use Rattle.paper.specs.Axes.{Shape, star, result}
use Rattle.paper.specs.Bundle.{sizes_in, After, put_into}
use Rattle.paper.specs.Listing.{planned, last_shape, plan}
use Rattle.laws.specs.Sizes.{fits}
use Rattle.pack.specs.Heads.{head_length, whole_head, HeadRoom, HeadPut, whole-put, whole_long}
use Rattle.recipe.specs.declared.Plan.{Plan}
use Rattle.recipe.specs.Operands.{shape_in}
use Rattle.recipe.specs.Whole.{steps_of, Laid, steps-count, cells-sum}
use Rattle.values.specs.Done.{no_planned}
use Rattle.run.specs.Tests.{Accepted, last_in, axes_in, last-laid, last-shape, last_step}

-- the head of a recipe's last result, in the bundle's version, where there is room for a whole one
unfoldable pub last_head : List ℕ → List ℕ → ℕ → Res (List ℕ)
last_head bundle recipe room = do
  (As, ps) ← planned bundle recipe
  let z = sizes_in bundle
  ensure (leb (head_length z) room) small_output14 0
  Ok (whole_head z (last_shape ps))

-- an extent call: bundle, recipe, and the buffer that the head is put into; its length is answered
abbrev pub extent : List ℕ → List ℕ → List ℕ → After
extent bundle recipe out = put_into out (last_head bundle recipe (length out))

-- a result's maximum has its axes
result-alike : (s : Shape) (t : ℕ) (N : List Name) (E : List Axis) → s ≡ result t N E → length s.maximum ≡ length s.axes
result-alike s t N E e = rw e (length-map E star)

-- the bundle or the recipe is refused
module _ (B bs : List ℕ) {x : Refusal} (q : Err x ≡ planned B bs) where
  pub plan-refused : Err x ≡ plan B bs
  unfolding plan
  plan-refused = rw (← q)

  pub extent-refused : (out : List ℕ) → record { answer = Err x; buffer = out } ≡ extent B bs out
  unfolding last_head put_into
  extent-refused out = rw (← q)

-- both are accepted
module _ {B bs : List ℕ} {P : Plan} (p : Accepted B bs P) where
  pub laid : Laid bs P
  laid = p.setting.laid

  shape_is : last_shape (steps_of bs P) ≡ shape_in (last_in P)
  shape_is = last-shape laid p.some

  pub plan-told : (axes : ℕ) → axes ≡ length (axes_in (last_in P))
      → Ok (record { total = P.cells; kind = (last_in P).form.kind; axes = axes; cells = (last_in P).cells }) ≡ plan B bs
  unfolding plan
  plan-told axes e = rw (← p.said, shape_is, ← cells-sum laid, ← (last-laid laid p.some).count, e) refl

  pub last-few : (last_in P).cells ≤ most_cells
  last-few = let l = last-laid laid p.some in omega (arith, l.small.few, l.count)

  -- the bundle's sizes
  abbrev z' : Sizes
  z' = sizes_of P.version

  sized : sizes_in B ≡ z'
  sized = ap sizes_of (sym p.version)

  last-ranked : length (axes_in (last_in P)) ≤ z'.axes
  last-ranked = (last-laid laid p.some).few

  module _ (out : List ℕ) where
    pub extent-short : length out < head_length z' → (r : Refusal) → r ≡ refusal small_output14 0 0
        → record { answer = Err r; buffer = out } ≡ extent B bs out
    unfolding last_head put_into
    extent-short h r e = rw (← p.said, sized, lt-leb (head_length z') (length out) h, e) refl

    module _ (h : head_length z' ≤ length out) {y : List ℕ} (c : y ≡ over (replicate (head_length z') 0) out) where
      pub last-room : HeadRoom z' (last_in P).form 0 y
      last-room =
          let j : P.count - 1 < length (steps_of bs P) = omega (arith, steps-count laid, p.some) in
          let q = (p.setting.passed (P.count - 1) no_planned j).shape in
          let zs : List ℕ = replicate (head_length z') 0 in
          let l : length y ≡ length out
          = rw c (omega (
            arith,
            length-append zs (drop (length zs) out),
            length-replicate {A = ℕ} (head_length z') 0,
            length-drop (length zs) out,
          )) in
          record {
            alike = result-alike (shape_in (last_in P)) _ _ _ (sym (last_step laid p.some) ∙ q);
            room = omega (arith, l, h, mul-le-mul_right z'.axis last-ranked);
          }

      head-got : last_head B bs (length out) ≡ Ok (whole_head z' (shape_in (last_in P)))
      unfolding last_head
      head-got = rw (← p.said, sized, le-leb (head_length z') (length out) h) (ap (λ (s : Shape). Ok (whole_head z' s)) shape_is)

      pub extent-told : (end : ℕ) (w : List ℕ) → HeadPut z' (last_in P).form 0 y end w → (n : ℕ) → n ≡ head_length z'
          → record { answer = Ok n; buffer = w } ≡ extent B bs out
      unfolding put_into
      extent-told end w q n e =
          let l = whole_long (fits P.version) (last_in P).form last-room q.named last-ranked in
          let b = whole-put (fits P.version) (last_in P).form out last-room last-ranked c q in
          rw head-got (λ i. record { answer = Ok ((e ∙ sym l) i); buffer = b i })
