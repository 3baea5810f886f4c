-- What laws and loops need of a version's sizes: how they hang together, and that there is room for them.
use Rattle.std.specs.Prelude.{◌+◌, ◌*◌, ◌≤◌, ◌≡◌, refl}
use Rattle.std.proofs.Common.{arith}
use Rattle.paper.specs.declared.Version.{Version}
use Rattle.paper.specs.declared.Version.TheVariants.{One, Two}
use Rattle.paper.specs.declared.Sizes.{Sizes}
use Rattle.paper.specs.Limits.{most_axes, half_name, limits_bytes, pair_bytes, head_bytes, scalar_at, word_bytes, sizes_of}

pub record Fits (z : Sizes) : Type 0 where
  -- there is room for its axes and its names
  pub axes : z.axes ≤ most_axes
  pub name : z.name ≤ 2 * half_name
  pub half : half_name ≤ z.name
  -- an axis has its name and its limits, a step its four bytes and its detail
  pub axis : z.axis ≡ z.name + limits_bytes
  pub step : z.step ≡ head_bytes + z.detail
  -- the detail has a pair and a name for every axis, and a scalar
  pub pairs : z.axes * pair_bytes ≤ z.detail
  pub names : z.axes * z.name ≤ z.detail
  pub scalar : scalar_at + word_bytes ≤ z.detail
  -- and is small
  pub small : z.detail ≤ 96

pub fits : (v : Version) → Fits (sizes_of v)
unfolding sizes_of
fits One = record {
  axes = omega arith;
  name = omega arith;
  half = omega arith;
  axis = refl;
  step = refl;
  pairs = omega arith;
  names = omega arith;
  scalar = omega arith;
  small = omega arith;
}
fits Two = record {
  axes = omega arith;
  name = omega arith;
  half = omega arith;
  axis = refl;
  step = refl;
  pairs = omega arith;
  names = omega arith;
  scalar = omega arith;
  small = omega arith;
}
