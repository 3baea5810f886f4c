-- A total of an array of a bundle, by the ways its judging can end.
use Rattle.std.specs.Prelude.{ℕ, ◌≡◌, true, false, List, Err}
use Rattle.std.proofs.Common.{arith}
use Rattle.paper.specs.declared.Head.{Head}
use Rattle.paper.specs.declared.Refusal.{Refusal}
use Rattle.paper.specs.declared.Total.{Total}
use Rattle.paper.specs.Refusals.{refusal, unfit7}
use Rattle.paper.specs.Reference.{chosen}
use Rattle.paper.specs.Totals.{totals?, total_of, totals}
use Rattle.bundle.specs.Read.{array_at}
use Rattle.refer.specs.Chosen.{ItsHead}
use Rattle.totals.specs.Cells.{Lying, cells_at}

-- the array's own refusal
pub total-refused : (bs : List ℕ) (k : ℕ) (which : Total) {x : Refusal} → Err x ≡ chosen bs k → Err x ≡ totals bs k which
unfolding totals
total-refused bs k which e = rw (← e)

module _ {bs : List ℕ} {k : ℕ} {h : Head} (v : ItsHead bs k h) (which : Total) where
  -- a total that its type has not
  pub total-unfit : totals? which h.form.kind ≡ false → Err (refusal unfit7 k 0) ≡ totals bs k which
  unfolding totals array_at
  total-unfit e = rw (← v.said, e)

  -- its cells, as many as its extent has
  pub lying : Lying h.at h.cells bs
  lying = let f = v.fit in record { few = f.few; room = omega (arith, f.counted, f.fits) }

  pub total-is : totals? which h.form.kind ≡ true
      → total_of which k h.form.kind (cells_at bs h.at h.form.kind h.cells) ≡ totals bs k which
  unfolding totals array_at
  total-is e = rw (v.fit.counted, ← v.said, e)
