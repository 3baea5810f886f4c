-- What a caller learns of a page call, by the call's own contract: were less written there, this would not stand.
use Rattle.paper.specs.declared.Listed.{Listed}
use Rattle.paper.specs.Refusals.{Res}
use mathlib.Core.Path.{◌≡◌}
use contract.Lifetimes.{Lfts}
use denote.Triple.Clauses.{AtExit}
use borrow.Fn.Kinds.{Dens, ended_of}
use Rattle.paper.specs.Listing.{page}
use Rattle.run.proofs.page.Kinds.{ps, r}
use Rattle.run.proofs.page.Reads.{Learnt}

-- what is passed, what is answered, and what is passed as it is after the call
module _ (κs : Lfts 4) (a : Dens κs ps) (answer : Res Listed) (end : AtExit (ended_of 4 ps r) κs) where
  pub page-promised : Learnt κs a answer end
      → record { answer = answer; work = end.1.1.0.now; rows = end.1.1.1.1.0.now }
      ≡ page a.0.now a.1.0.now a.1.1.0.now a.1.1.1.0.0 a.1.1.1.1.0.now
  page-promised l = l
