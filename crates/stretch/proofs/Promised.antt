-- What a caller learns of a stretch, by the call's own contract: were less written there, this would not stand.
use contract.Lifetimes.{Lfts}
use denote.Triple.Clauses.{AtExit}
use borrow.Fn.Kinds.{Dens, res_t, ended_of}
use Rattle.stretch.specs.Sides.{sided}
use Rattle.stretch.specs.Handed.{Handed}
use Rattle.stretch.proofs.stretch.Kinds.{ps, r}
use Rattle.stretch.proofs.stretch.Reads.{Learnt}

module _ (κs : Lfts 2) (a : Dens κs ps) (out : (res_t r κs).Denot) (end : AtExit (ended_of 2 ps r) κs) where
  pub stretch-promised : Learnt κs a out end
      → Handed a.0 (sided a.1.0 a.1.1.0 a.1.1.1.0 a.1.1.1.1.0.now)
      (sided a.1.1.1.1.1.0 a.1.1.1.1.1.1.0 a.1.1.1.1.1.1.1.0 a.1.1.1.1.1.1.1.1.0.now)
      a.1.1.1.1.1.1.1.1.1.0.0 a.1.1.1.1.1.1.1.1.1.1.0.0 out.now
      end.1.1.1.1.1.1.1.1.1.1.1.0.now
  stretch-promised l = l
