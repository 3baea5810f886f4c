-- A byte place that four bytes have room for is told as it is, another as the largest number: the two ways out of the code, and that an
-- answer whose ordinality fits is said as it stands.
use Rattle.std.specs.Prelude.{ℕ, ◌≤◌, ◌<◌, ◌≡◌, Result, Err}
use Rattle.std.proofs.Common.{sym, ap, subst, le-leb}
use Rattle.std.proofs.lemmas.Bool.{lt-leb}
use Rattle.paper.specs.declared.Refusal.{Refusal}
use Rattle.paper.specs.declared.JsonRefusal.{JsonRefusal}
use Rattle.paper.specs.declared.JsonRefusal.TheVariants as Json
use Rattle.paper.specs.Refusals.{Res, refusal}
use Rattle.paper.specs.Answers.{json_said}
use Rattle.c_told.specs.declared.Reply.{Reply}
use Rattle.c_told.specs.Said.{largest, capped, capped_refusal, capped_in, refusing, answered}
use Rattle.c_told.specs.Given.{number_bytes}
use Rattle.c_told.specs.Replies.{Tells, arm}

module _ (i : ℕ) where
  pub capped_fits : i ≤ largest → i ≡ capped i
  capped_fits h = rw (le-leb i largest h)

  pub capped-over : largest < i → largest ≡ capped i
  capped-over h = rw (lt-leb i largest h)

-- a refusal whose ordinality fits is told as it is
pub refusal-fits : (r : Refusal) → r.ordinality ≤ largest → capped_refusal r ≡ r
refusal-fits r h = ap (refusal r.number r.place) (sym (capped_fits r.ordinality h))

-- ---- an answer of reading JSON

abbrev json_capped : Result ℕ JsonRefusal → Res ℕ
json_capped a = capped_in (json_said a)

module _ {a : Result ℕ JsonRefusal} {reply : Reply} where
  -- the case of an answer tells what the answer does
  pub json-arm : (b : Result ℕ JsonRefusal) → a ≡ b → Tells (answered number_bytes (json_capped b)) reply
      → Tells (answered number_bytes (json_capped a)) reply
  json-arm b = arm number_bytes json_capped a b reply

  -- a refusal with an ordinality that fits
  pub json-refused : (r : Refusal) → a ≡ Err (Json.Refused r) → r.ordinality ≤ largest → Tells (refusing r) reply
      → Tells (answered number_bytes (json_capped a)) reply
  json-refused r e h t = json-arm (Err (Json.Refused r)) e (subst (λ (q : Refusal). Tells (refusing q) reply) (sym (refusal-fits r h)) t)
