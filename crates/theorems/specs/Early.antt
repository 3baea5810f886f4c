-- Tests refuse with 1 to 11: reading a bundle, planning a recipe, the tests of a run, of a page and of a stretch.
use Rattle.std.specs.Prelude.{ℕ, zero, suc, ◌+◌, ◌≡◌, refl, Bool, true, false, List, [], eqb, if◌then◌else◌, Option, None, Some, Ok, Err}
use Rattle.paper.specs.declared.Sizes.{Sizes}
use Rattle.paper.specs.declared.Refusal.{Refusal}
use Rattle.paper.specs.Limits.{version1, version2}
use Rattle.paper.specs.Refusals.{Res, ◌>>=◌, refusal, ensure, ensure_same, present, between, bad_bytes1, differ8, bad_page11}
use Rattle.paper.specs.Axes.{Shape}
use Rattle.paper.specs.Bundle.{version_told, sizes_in, cells_of, array_of, read_array, read_arrays, read_as, read_bundle}
use Rattle.paper.specs.Recipe.{step_tests, step_result, step_over, plan_step, plan_steps, plan_recipe}
use Rattle.paper.specs.Listing.{planned, run_tests, list_tests, page_tests}
use Rattle.paper.specs.Stretch.{Side, judge, glue_tests, stretch_in, stretch}
use Rattle.laws.specs.Tests.{none-refused}

-- a refusal's number is 1 to 11: so of one test, and of tests one after the other
pub record Early {A : Type 0} (m : Res A) : Type 0 where
  pub early : (r : Refusal) → m ≡ Err r → between 1 bad_page11 r.number ≡ true

done : {A : Type 0} (a : A) → Early (Ok a)
done a = record { early = λ r e. absurd (none-refused a r e) }

refused-early : {A : Type 0} (x : Refusal) → between 1 bad_page11 x.number ≡ true → Early {A = A} (Err x)
refused-early x h = record { early = λ r e. let q : x ≡ r = cc in rw q at h }

then-early : {A B : Type 0} (m : Res A) (f : A → Res B) → Early m → ((a : A) → Early (f a)) → Early (m >>= f)
then-early (Ok a) f h g = g a
then-early (Err r) f h g = refused-early r (h.early r refl)

ensure-early : (t : Bool) (n k : ℕ) → between 1 bad_page11 n ≡ true → Early (ensure t n k)
ensure-early true n k h = done tt
ensure-early false n k h = refused-early (refusal n k 0) h

same-early : (d k : ℕ) → Early (ensure_same d k)
same-early d k = by (eqb d 0)
  where
    by : (t : Bool) → Early {A = Unit {0}} (if t then Ok tt else Err (refusal differ8 k d))
    by true = done tt
    by false = refused-early {A = Unit {0}} (refusal differ8 k d) refl

present-early : {A : Type 0} (o : Option A) (r : Refusal) → between 1 bad_page11 r.number ≡ true → Early (present o r)
present-early None r h = refused-early r h
present-early (Some a) r h = done a

-- what follows of a `do` block is found line by line
ruleset tests = (done, then-early, ensure-early, same-early, present-early)

cells-early : (n k t o : ℕ) (bs : List ℕ) → Early (cells_of k t o n bs)
unfolding cells_of
cells-early zero k t o bs = done []
cells-early (suc n) k t o bs = search (tests, cells-early n k t (o + 1))

read-early : (z : Sizes) (k : ℕ) (bs : List ℕ) → Early (read_array z k bs)
unfolding read_array array_of
read-early z k bs = search (tests, cells-early) depth 9

arrays-early : (z : Sizes) (n k : ℕ) (bs : List ℕ) → Early (read_arrays z k n bs)
unfolding read_arrays
arrays-early z zero k bs = done ([], bs)
arrays-early z (suc n) k bs = search (tests, read-early z, arrays-early z n (k + 1))

pub bundle-early : (bs : List ℕ) → Early (read_bundle bs)
unfolding read_as
bundle-early bs = search (tests, arrays-early (sizes_in bs)) depth 7

steps-early : (z : Sizes) (n k : ℕ) (arrays earlier : List Shape) (bs : List ℕ) → Early (plan_steps z k n arrays earlier bs)
unfolding plan_steps plan_step step_over step_tests step_result
steps-early z zero k arrays earlier bs = done []
steps-early z (suc n) k arrays earlier bs = search (tests, steps-early z n (k + 1) arrays) depth 12

planned-early : (bundle recipe : List ℕ) → Early (planned bundle recipe)
unfolding planned plan_recipe
planned-early bundle recipe = search (tests, bundle-early, steps-early (sizes_in bundle))

pub run-early : (bundle recipe work : List ℕ) → Early (run_tests bundle recipe work)
unfolding run_tests
run-early bundle recipe work = search (tests, planned-early)

pub page-early : (bundle recipe work : List ℕ) (start : ℕ) (rows : List ℕ) → Early (page_tests bundle recipe work start rows)
unfolding page_tests list_tests
page-early bundle recipe work start rows = search (tests, planned-early) depth 7

either-early : {A : Type 0} (b : Bool) (m n : Res A) → Early m → Early n → Early (if b then m else n)
either-early true m n h k = h
either-early false m n h k = k

told-early : (v : ℕ) → Early (version_told v)
unfolding version_told
told-early v =
    either-early (eqb v 1) _ _ (done version1) (either-early (eqb v 2) _ _ (done version2) (refused-early (refusal bad_bytes1 0 0) refl))

pub stretch-early : (v : ℕ) (l r : Side) (k o : ℕ) → Early (stretch v l r k o)
unfolding stretch stretch_in judge glue_tests
stretch-early v l r k o = search (tests, told-early) depth 10
