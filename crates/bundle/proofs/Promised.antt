-- What a caller learns of reading a bundle, by the call's own contract: were less written there, this would not stand.
use contract.Lifetimes.{Lfts}
use denote.Triple.Clauses.{AtExit}
use borrow.Fn.Kinds.{Dens, ended_of}
use Rattle.paper.specs.declared.Reading.{Reading}
use Rattle.paper.specs.Refusals.{Res}
use Rattle.bundle.specs.Read.{ReadAll}
use Rattle.bundle.proofs.read.Kinds.{ps, r}
use Rattle.bundle.proofs.read.Reads.{Learnt}

module _ (κs : Lfts 1) (a : Dens κs ps) (answer : Res Reading) (end : AtExit (ended_of 1 ps r) κs) where
  pub read-promised : Learnt κs a answer end → ReadAll a.0.now answer
  read-promised l = l
