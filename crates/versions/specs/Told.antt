-- A version told: its sizes, or the refusal.
use Rattle.std.specs.Prelude.{ℕ, ◌≡◌, Bool, true, false, eqb, if◌then◌else◌, Ok, Err}
use Rattle.paper.specs.declared.Version.{Version}
use Rattle.paper.specs.declared.Sizes.{Sizes}
use Rattle.paper.specs.Limits.{version1, version2, sizes_of}
use Rattle.paper.specs.declared.Refusal.{Refusal}
use Rattle.paper.specs.Refusals.{Res, refusal, bad_bytes1}
use Rattle.paper.specs.Bundle.{version_told}

abbrev pub told_sizes : Res Version → Res Sizes
told_sizes (Ok v) = Ok (sizes_of v)
told_sizes (Err r) = Err r

-- a version that is none is refused with 1
pub untold : (n : ℕ) {x : Refusal} → Err x ≡ version_told n → x ≡ refusal bad_bytes1 0 0
unfolding version_told
untold n {x} e = by (eqb n 1) (eqb n 2) e
  where
    by : (a b : Bool) → Err x ≡ (if a then Ok version1 else (if b then Ok version2 else Err (refusal bad_bytes1 0 0))) → x ≡ refusal bad_bytes1 0 0
    by true b q = cc
    by false true q = cc
    by false false q = cc
