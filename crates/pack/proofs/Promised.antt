-- What a caller learns of packing, by the call's own contract: were less written there, this would not stand.
use Prim.Native.Nat.{ℕ}
use Rattle.paper.specs.Refusals.{Res}
use contract.Lifetimes.{Lfts}
use denote.Triple.Clauses.{AtExit}
use borrow.Fn.Kinds.{Dens, ended_of}
use Rattle.pack.specs.Laid.{shapes_of}
use Rattle.pack.specs.Laying.{PackedInto}
use Rattle.pack.proofs.pack.Kinds.{ps, r}
use Rattle.pack.proofs.pack.Reads.{Learnt}

module _ (κs : Lfts 2) (a : Dens κs ps) (answer : Res ℕ) (end : AtExit (ended_of 2 ps r) κs) where
  pub pack-promised : Learnt κs a answer end
      → PackedInto a.0 (shapes_of a.1.0 a.1.1.0) a.1.1.1.0.now a.1.1.1.1.0.now answer end.1.1.1.1.0.now
  pack-promised l = l
