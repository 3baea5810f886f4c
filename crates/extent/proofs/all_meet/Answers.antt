-- `extent::all_meet` meets its contract.
-- As many axes; then the test of each two, as the chain has it.
use Rattle.std.proofs.Common.{ℕ, ◌≡◌, ◌∙◌, ap, arith, rules, sym, take}
use Rattle.std.proofs.lemmas.Iterator.{YieldsList-from_slice, YieldsList-from_zip}
use Rattle.std.proofs.lemmas.Iterator.Search.{all_from_yields_List}
use Rattle.extent.specs.Meeting.{alike-other, alike-zip}
use Rattle.paper.specs.Answers.{axes_of}
use Rattle.extent.proofs.all_meet.Goals as goal

pub returns-then-rank_of-rank : goal.returns-then-rank_of-rank
returns-then-rank_of-rank g c m h =
    alike-other m _ _ (λ e. c.if-rank_of-rank.true (c.rank_of.ensures.number ∙ e ∙ sym c.rank_of-rank.ensures.number))

pub returns : goal.returns
returns g c m h =
    let e = axes_of c.args.e in
    let f = axes_of c.args.f in
    let same : c.rank_of.result ≡ c.rank_of-rank.result = omega (arith, c.if-rank_of-rank.false) in
    all_from_yields_List (λ p. m p.0 p.1) c.all.new.self _ _ c.all.ensures.ran
    (YieldsList-from_zip
    (YieldsList-from_slice {s = c.zip.result.a} e (ap (λ i. i.rest.now) c.zip.ensures.first ∙ c.iter.ensures.rest ∙ c.rank_of-rank.ensures.first))
    (YieldsList-from_slice {s = c.zip.result.b} f (c.zip.ensures.second.0 ∙ ap (λ (n : ℕ). take n c.args.f.axes) (sym same) ∙ c.rank_of.ensures.first)))
    (λ x b q k. let t : b ≡ m x.0.now x.1.now = h _ _ _ (search rules) in search (rules, t))
    ∙ sym (alike-zip m e f (omega arith))
