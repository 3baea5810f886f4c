-- A token held against what is due: what reading comes to stays what it was, with the cell that was stored.
use Prim.Native.Nat.{ℕ, ◌+◌}
use Rattle.std.specs.Prelude.{◌≡◌, Bool, drop}
use Rattle.std.proofs.Math.Path.{refl, sym, ap, subst}
use Rattle.std.proofs.Common.{◌∙◌}
use Rattle.std.proofs.Math.Bool.{true}
use mathlib.Core.List.{List, []}
use Rattle.std.proofs.Math.ListN.{length}
use Rattle.paper.specs.declared.Axis.{Axis}
use Rattle.paper.specs.Numbers.{text}
use Rattle.paper.specs.JsonRead.{Token, spells}
use Rattle.json_text.specs.Left.{preceded}
use Rattle.json_levels.specs.declared.Begun.{Begun}
use Rattle.json_levels.specs.Tokens.{TokenAt}
use Rattle.json_read.specs.declared.fit.Fit.{Fit}
use Rattle.json_read.specs.declared.fit.Sign.{Sign}
use Rattle.json_read.specs.Outcome.{outcome, with_none}
use Rattle.json_read.specs.Fit.{phase_of, Ready, TokenMet, after_data, sign_of, SignedBy, signed_by, number, other_sign, data-stored, data-goes}

-- `data`: its token is met
module _ (t : ℕ) (E : List Axis) (s : List ℕ) (i : ℕ) (g : Begun) (d : ℕ) (f : Fit) (out : List ℕ) (y : Ready E f (length out)) where
  abbrev spelt : Bool
  spelt = spells (text "data") (drop (i + 1) s)

  pub data-met : sign_of g d spelt ≡ Sign.Data → (r : Fit) → r ≡ after_data f i → TokenMet t E s i g d f out r out
  unfolding SignedBy number
  data-met e r q =
      subst (λ (h : Fit). TokenMet t E s i g d f out h out) (sym q)
      (record {
        new = [];
        stored = data-stored t E s i g d f out y f.stage refl;
        stopped = λ h. absurd (other_sign g d spelt Sign.Data e refl h);
        goes = λ n ks u a R.
            let k : TokenAt true s i ks = subst (λ (z : Sign). SignedBy z g s i ks) e (signed_by g d spelt s i ks u a) in
            ap (λ (l : List Token). outcome t n (phase_of E f) (preceded l R)) k.alone
            ∙ data-goes t E s i g d f out y f.stage refl n k.token k.place k.data? R
            ∙ with_none (outcome t n (phase_of E (after_data f i)) R);
      })
