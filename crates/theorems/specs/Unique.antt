-- Promises fix answers: two answers with the same figures are equal, and so are two readings with nothing past the last array and axis.
use Rattle.std.specs.Prelude.{◌≡◌, refl, ℕ, eqb, if◌then◌else◌, Ok, Err, Result}
use Rattle.paper.specs.declared.Part.{Part}
use Rattle.paper.specs.declared.Foreseen.{Foreseen}
use Rattle.paper.specs.declared.Listed.{Listed}
use Rattle.paper.specs.declared.Totalled.{Totalled}
use Rattle.paper.specs.declared.Cell.{Cell}
use Rattle.std.proofs.Common.{sym, ap, ◌∙◌, ne_eqb}
use Rattle.paper.specs.declared.Version.{Version}
use Rattle.paper.specs.declared.Extent.{Extent}
use Rattle.paper.specs.declared.Reading.{Reading}
use Rattle.paper.specs.declared.JsonRefusal.{JsonRefusal}
use Rattle.paper.specs.declared.Walk.{Walk}
use Rattle.paper.specs.Refusals.{Res}
use Rattle.paper.specs.Reference.{Walked}
use Rattle.paper.specs.Answers.{axes_of, extent_of, read_said, json_said, json_exact}
use Rattle.paper.specs.Answers.{walk_said}
use Rattle.laws.specs.Answers.{TidyExtent, reading_of}
use Rattle.paper.specs.declared.JsonRefusal.TheVariants as Json

-- ---- answers that are results: a result is its own figures, what was got or the refusal's three, whatever is got

answer-one : {A : Type 0} (a b : Res A) → a ≡ b → a ≡ b
answer-one a b e = e

-- of packing, of a run and of writing JSON; of a reference; of a total; of a plan; of a page; of a stretch
pub number-one : (a b : Res ℕ) → a ≡ b → a ≡ b
number-one = answer-one

pub reference-one : (a b : Res Cell) → a ≡ b → a ≡ b
reference-one = answer-one

pub total-one : (a b : Res Totalled) → a ≡ b → a ≡ b
total-one = answer-one

pub plan-one : (a b : Res Foreseen) → a ≡ b → a ≡ b
plan-one = answer-one

pub page-one : (a b : Res Listed) → a ≡ b → a ≡ b
page-one = answer-one

pub stretch-one : (a b : Res Part) → a ≡ b → a ≡ b
stretch-one = answer-one

-- ---- of reading JSON: an answer is fixed by its figures where 15 and 16 are told by refusals of their own

json-back : Res ℕ → Result ℕ JsonRefusal
json-back (Ok n) = Ok n
json-back (Err r) =
    if eqb r.number 15 then Err (Json.NotJson r.ordinality) else
    (if eqb r.number 16 then Err (Json.Misfit r.ordinality) else Err (Json.Refused r))

json-again : (a : Result ℕ JsonRefusal) → json_exact a → json-back (json_said a) ≡ a
unfolding json-back
json-again (Ok n) h = refl
json-again (Err (Json.NotJson i)) h = refl
json-again (Err (Json.Misfit i)) h = refl
json-again (Err (Json.Refused r)) h = rw (ne_eqb r.number 15 h.0, ne_eqb r.number 16 h.1)

pub json-one : (a b : Result ℕ JsonRefusal) → json_exact a → json_exact b → json_said a ≡ json_said b → a ≡ b
json-one a b h k e = sym (json-again a h) ∙ (ap json-back e ∙ json-again b k)

-- ---- a walk's answer and the walking place after it

pub walk-one : (a b : Walk) → walk_said a ≡ walk_said b → a ≡ b
walk-one a b e =
    let p : a.answer ≡ b.answer = ap (λ (w : Walked). w.answer) e in
    let q : a.place.0 ≡ b.place.0 = ap (λ (w : Walked). w.place) e in
    λ i. record { answer = p i; place = record { 0 = q i } }

-- ---- extents and readings

pub extent-one : (e f : Extent) → TidyExtent e → TidyExtent f → axes_of e ≡ axes_of f → e ≡ f
extent-one e f h k q = h ∙ ap extent_of q ∙ sym k

-- so a reading with nothing past the last is fixed by its version and its figures
pub reading-one : (v : Version) (r s : Res Reading) → r ≡ reading_of v (read_said r) → s ≡ reading_of v (read_said s) → read_said r ≡ read_said s
    → r ≡ s
reading-one v r s h k q = h ∙ ap (reading_of v) q ∙ sym k
