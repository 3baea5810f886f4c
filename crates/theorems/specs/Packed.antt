-- Demand 2's last sentence, of `pack` and `read_bundle` on buffers, in each version: packing a valid list of arrays and reading the bytes
-- gives those arrays (`pack-read`); valid bytes read and packed are those bytes (`read-pack`). And whatever packing accepts is read back
-- (`accepted-read`).
use Rattle.std.specs.Prelude.{ℕ, ◌≤◌, ◌≡◌, refl, Bool, true, false, List, eqb, length, take, drop, if◌then◌else◌, Ok, Err}
use Rattle.std.proofs.Common.{sym, ap, subst, ◌∙◌}
use Rattle.std.proofs.Math.Seq.{take-append_seam}
use Rattle.paper.specs.declared.Version.{Version}
use Rattle.paper.specs.declared.Version.TheVariants.{One, Two}
use Rattle.paper.specs.declared.Sizes.{Sizes}
use Rattle.paper.specs.Limits.{version1, version2, sizes_of}
use Rattle.paper.specs.Refusals.{Res, ◌>>=◌, refusal, bad_bytes1}
use Rattle.paper.specs.Numbers.{over}
use Rattle.paper.specs.Axes.{Shape, Array}
use Rattle.paper.specs.Bundle.{version_told, version_in, sizes_in, read_bundle, bundle_bytes, packed, After, put_into, pack}
use Rattle.laws.specs.Numbers.{Bytes}
use Rattle.laws.specs.Tests.{no-refusal, got-one}
use Rattle.roundtrip.specs.Valid.{AllValid, shapes, all_cells}
use Rattle.roundtrip.proofs.Reading.{bundle-read}
use Rattle.roundtrip.proofs.Packing.{AllNamed, bundle-accepted, bundle-back, bundle-packed, version-back}

-- ---- the version told

-- a version's own number tells of it
pub told-own : (v : Version) → version_told (sizes_of v).version ≡ Ok (sizes_of v)
unfolding version_told sizes_of
told-own One = refl
told-own Two = refl

by_two : (n : ℕ) (z : Sizes) (b : Bool) → (if b then Ok version2 else Err (refusal bad_bytes1 0 0)) ≡ Ok z → (v : Version)
    × (sizes_of v ≡ z)
unfolding sizes_of
by_two n z true e = (Two, got-one version2 z e)
by_two n z false e = absurd (no-refusal _ z e)

by_one : (n : ℕ) (z : Sizes) (b : Bool)
    → (if b then Ok version1 else (if eqb n 2 then Ok version2 else Err (refusal bad_bytes1 0 0))) ≡ Ok z → (v : Version)
    × (sizes_of v ≡ z)
unfolding sizes_of
by_one n z true e = (One, got-one version1 z e)
by_one n z false e = by_two n z (eqb n 2) e

-- and what a number tells of is a version
pub told-version : (n : ℕ) (z : Sizes) → version_told n ≡ Ok z → (v : Version) × (sizes_of v ≡ z)
unfolding version_told
told-version n z e = by_one n z (eqb n 1) e

-- ---- packing and reading

-- packing gave these bytes: their number is the answer, and they are the first of the output buffer, whose other bytes stay
abbrev pub gave : List ℕ → List ℕ → After
gave bs out = record { answer = Ok (length bs); buffer = over bs out }

-- packing answered a number of bytes, and so many bytes of its buffer are of that version and are read as these arrays
abbrev pub ReadIn : Version → After → List Array → Type 0
ReadIn v p As = (n : ℕ) × (p.answer ≡ Ok n) × (version_in (take n p.buffer) ≡ v) × (read_bundle (take n p.buffer) ≡ Ok As)

-- a valid list of arrays is packed where there is room, into its bundle's bytes
pub pack-valid : (v : Version) (As : List Array) (out : List ℕ) → AllValid (sizes_of v) As → length (bundle_bytes (sizes_of v) As) ≤ length out
    → pack (sizes_of v).version (shapes As) (all_cells As) out ≡ gave (bundle_bytes (sizes_of v) As) out
unfolding put_into
pack-valid v As out h l =
    ap (λ (m : Res Sizes). put_into out (m >>= (λ z. packed z (shapes As) (all_cells As) (length out)))) (told-own v)
    ∙ ap (put_into out) (bundle-packed (sizes_of v) As (length out) h l)

-- what packing gave is read, if its bytes are
gave_read : (v : Version) (bs out : List ℕ) (As : List Array) → version_in bs ≡ v → read_bundle bs ≡ Ok As → ReadIn v (gave bs out) As
gave_read v bs out As i e =
    let s = take-append_seam bs (drop (length bs) out) in
    (length bs, refl, ap version_in s ∙ i, ap read_bundle s ∙ e)

-- packing a valid list of arrays and reading the bytes gives those arrays
pub pack-read : (v : Version) (As : List Array) (out : List ℕ) → AllValid (sizes_of v) As → length (bundle_bytes (sizes_of v) As) ≤ length out
    → ReadIn v (pack (sizes_of v).version (shapes As) (all_cells As) out) As
pack-read v As out h l =
    rw (pack-valid v As out h l) (gave_read v (bundle_bytes (sizes_of v) As) out As (version-back v As) (bundle-back v As h))

-- valid bytes read and packed are those bytes
pub read-pack : (bs : List ℕ) (As : List Array) (out : List ℕ) → Bytes bs → read_bundle bs ≡ Ok As → length bs ≤ length out
    → pack (sizes_in bs).version (shapes As) (all_cells As) out ≡ gave bs out
read-pack bs As out h e l =
    let r = bundle-read bs As h e in
    pack-valid (version_in bs) As out r.valid (rw r.bytes l) ∙ ap (λ (b : List ℕ). gave b out) r.bytes

-- what packing accepts: arrays of these shapes and cells, and it is read back as they are
pub record AcceptedIn (n : ℕ) (ss : List Shape) (bs : List ℕ) (p : After) : Type 0 where
  pub version : Version
  pub told : version_told n ≡ Ok (sizes_of version)
  pub arrays : List Array
  pub its_shapes : shapes arrays ≡ ss
  pub its_cells : all_cells arrays ≡ bs
  pub back : ReadIn version p arrays

-- whatever types, extents, maxima and cells packing accepts are read back
pub accepted-read : (version : ℕ) (ss : List Shape) (bs out : List ℕ) (n : ℕ) → Bytes bs → AllNamed ss
    → (pack version ss bs out).answer ≡ Ok n
    → AcceptedIn version ss bs (pack version ss bs out)
unfolding put_into
accepted-read version ss bs out n h m e = first (version_told version) refl e
  where
    after : (v : Version) → version_told version ≡ Ok (sizes_of v) → (r : Res (List ℕ)) → packed (sizes_of v) ss bs (length out) ≡ r
        → (put_into out r).answer ≡ Ok n
        → AcceptedIn version ss bs (put_into out r)
    after v t (Err x) q d = absurd (no-refusal x n d)
    after v t (Ok b) q d =
        let p = bundle-accepted (sizes_of v) ss bs (length out) b h m q in
        record {
          version = v;
          told = t;
          arrays = p.arrays;
          its_shapes = p.its_shapes;
          its_cells = p.its_cells;
          back = gave_read v b out p.arrays (rw p.bytes at (version-back v p.arrays))
              (rw p.bytes at (bundle-back v p.arrays p.valid));
        }

    first : (r : Res Sizes) → version_told version ≡ r → (put_into out (r >>= (λ z. packed z ss bs (length out)))).answer ≡ Ok n
        → AcceptedIn version ss bs (put_into out (r >>= (λ z. packed z ss bs (length out))))
    first (Err x) q d = absurd (no-refusal x n d)
    first (Ok z) q d =
        let t = told-version version z q in
        subst (λ (y : Sizes). (put_into out (packed y ss bs (length out))).answer ≡ Ok n
        → AcceptedIn version ss bs (put_into out (packed y ss bs (length out)))) t.1
        (after t.0 (q ∙ ap Ok (sym t.1)) (packed (sizes_of t.0) ss bs (length out)) refl) d
