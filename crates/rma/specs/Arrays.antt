-- The arrays of a bundle, as the face tells of them: how many, and of one its shape and where its cells begin, a number small enough for
-- four bytes.
use Rattle.std.specs.Prelude.{ℕ, ◌+◌, ◌*◌, ◌^◌, ◌≤◌, ◌<◌, ◌≡◌, List, [], ◌∷◌, map, Ok, Err}
use Rattle.std.proofs.Math.Path.{refl, sym, ap}
use Rattle.std.proofs.Common.{◌∙◌, mul-le-mul, le_trans, length-append}
use native.Mathlib.Omega.{arith}
use Rattle.std.proofs.Math.ListN.{length, take, length-map}
use Rattle.std.proofs.Math.Seq.{length-take-le}
use Rattle.paper.specs.declared.Version.{Version}
use Rattle.paper.specs.declared.Head.{Head}
use Rattle.paper.specs.declared.Reading.{Reading}
use Rattle.paper.specs.declared.Refusal.{Refusal}
use Rattle.paper.specs.Limits.{most_arrays, most_axes, half_name, limits_bytes, sizes_of}
use Rattle.paper.specs.Numbers.{le_bytes, concat}
use Rattle.paper.specs.Axes.{Array}
use Rattle.paper.specs.Cells.{cells_bytes}
use Rattle.paper.specs.Bundle.{version_in, array_bytes as bytes_of, bundle_bytes, read_bundle}
use Rattle.paper.specs.Reference.{chosen}
use Rattle.paper.specs.Answers.{axes_of}
use Rattle.laws.specs.Sizes.{fits}
use Rattle.laws.specs.Numbers.{Bytes}
use Rattle.laws.specs.Tests.{between-true, bind-got}
use Rattle.extent.specs.Judged.{good-small}
use Rattle.roundtrip.specs.Valid.{EachValid}
use Rattle.roundtrip.proofs.Reading.{bundle-read}
use Rattle.roundtrip.proofs.Packing.{valid-length, array_long}
use Rattle.bundle.specs.Read.{array_at, ReadAll}
use Rattle.pack.specs.Laid.{most_bytes}
use Rattle.refer.specs.Chosen.{array_told, ItsHead}
use Rattle.c_asked.specs.Asked.{count_of}
use Rattle.c_told.specs.declared.Reply.{Reply}
use Rattle.c_told.specs.Said.{answered}
use Rattle.c_told.specs.Given.{array_bytes}
use Rattle.c_told.specs.Replies.{Tells, most, four, four-told, told-as}

-- ---- how many there are

module _ {bs : List ℕ} where
  pub count-refused : {x : Refusal} → ReadAll bs (Err x) → Err x ≡ count_of bs
  unfolding count_of
  count-refused v = rw (← v.arrays) refl

  pub count-got : {o : Reading} → ReadAll bs (Ok o) → Ok o.count ≡ count_of bs
  unfolding count_of
  count-got {o} v =
      let hs = take o.count o.heads in
      rw (← v.arrays, length-map hs (array_at bs), length-take-le o.count o.heads v.kept.room) refl

-- ---- one of them

-- the bytes of valid arrays are few
arrays-short : (u : Version) (As : List Array) → EachValid (sizes_of u) As
    → length (concat (map (bytes_of (sizes_of u)) As)) ≤ length As * most_bytes
unfolding concat
arrays-short u [] v = omega arith
arrays-short u (A ∷ As) v =
    let z = sizes_of u in
    let f = fits u in
    let rest = concat (map (bytes_of z) As) in
    let n = length A.shape.axes in
    let r = between-true z.axes n v.0.rank in
    let wide : z.axis ≤ 2 * half_name + limits_bytes = omega (arith, f.axis, f.name) in
    let few : n * z.axis ≤ most_axes * (2 * half_name + limits_bytes) = mul-le-mul (le_trans r.1 f.axes) wide in
    omega (
      arith,
      array_long z f A rest v.0,
      length-append (cells_bytes A.cells) rest,
      valid-length A v.0,
      (good-small A.shape.names A.shape.axes v.0.extent).few,
      few,
      arrays-short u As v.1,
    )

module _ {bs : List ℕ} {k : ℕ} {h : Head} (v : ItsHead bs k h) where
  -- where its cells begin fits into four bytes: it lies in a bundle's, which are few
  pub array-near : Bytes bs → h.at < 2 ^ 32
  unfolding chosen bundle_bytes le_bytes
  array-near g =
      let r = bind-got (read_bundle bs) _ _ (sym v.said) in
      let w = bundle-read bs r.0 g r.1 in
      omega (
        arith,
        v.fit.fits,
        ap length w.bytes,
        arrays-short (version_in bs) r.0 w.valid.each,
        between-true most_arrays (length r.0) w.valid.count,
      )

  -- the four numbers that are told of it
  pub array-said : {rank : ℕ} {r : Reply} → rank ≡ length (axes_of h.form.extent)
      → r ≡ four 0 most h.form.kind rank h.cells h.at
      → Tells (answered array_bytes (array_told bs k)) r
  array-said p e = told-as array_bytes _ _ _ (sym v.told) (four-told 0 _ _ _ _ _ (rw (p, v.fit.counted) at e))
