-- `extent::names::good_names` meets its contract.
-- The loop keeps the test of the names left equal to the whole test; a later name is found by the derived equality.
use Rattle.std.proofs.Common.{ℕ, ◌+◌, ◌-◌, ◌≤◌, true, false, not, ◌&&◌, eqb, List, sym, ◌∙◌, ◌≡◌, arith, rules, length, get_or, take, drop}
use Rattle.std.proofs.lemmas.Iterator.{YieldsList-from_slice}
use Rattle.std.proofs.lemmas.Iterator.Search.{any_from_yields_List}
use Rattle.std.proofs.lemmas.Slice.{between_is}
use Rattle.paper.specs.declared.Name.{Name}
use Rattle.paper.specs.Limits.{most_axes}
use Rattle.paper.specs.Axes.{good_name, good_names, named, no_name}
use Rattle.laws.specs.Loops.{length-mapped}
use Rattle.extent.specs.Tests.{named-any, names-end, names-up}
use Rattle.extent.proofs.names.good_names.Goals as goal
use Rattle.extent.proofs.names.good_names.Goals.{In-loop-i, Start, then-not-is_name-via-then-not-is_name, then-not-is_name-via-else-not-is_name+then-any}

module _ (c : Start) where
  room : c.args.rank ≤ length c.args.names
  room = let l : length c.args.names ≡ most_axes = search (rules, length-mapped) in omega (arith, l, c.requires)

module _ (c : In-loop-i) where
  abbrev s : Start
  s = c.before.before

  abbrev N : List Name
  N = take s.args.rank s.args.names

  abbrev i : ℕ
  i = c.loop-i.i

  abbrev n : Name
  n = get_or s.args.names i no_name

  turn : good_names N ≡ (good_name n && (not (named n (drop (i + 1) N)) && good_names (drop (i + 1) N)))
  turn = sym c.loop-i.invariant ∙ names-up s.args.names s.args.rank (room s) i c.loop-i-test.true

  -- the names after one, on either side of the bounds
  later : take (s.args.rank - (i + 1)) (drop (i + 1) s.args.names) ≡ drop (i + 1) N
  later = search (rules, between_is)

pub returns-then-not-is_name : goal.returns-then-not-is_name
returns-then-not-is_name c =
    let t = (goal.at.returns-then-not-is_name c).In-loop-i in
    elim c.then-not-is_name.branch [
      | then-not-is_name-via-then-not-is_name w ↦
          let e : good_name (n t) ≡ false = sym c.is_name.ensures ∙ w.if-not-is_name.true in
          sym (turn t ∙ rw e)
      | then-not-is_name-via-else-not-is_name+then-any w ↦
          let e : good_name (n t) ≡ true = sym c.is_name.ensures ∙ w.if-not-is_name.false in
          let f : named (n t) (drop (i t + 1) (N t)) ≡ true = named-any (n t) (drop (i t + 1) (N t)) ∙ sym (any_from_yields_List (λ m. eqb m.first (n t).first && eqb m.last (n t).last) _ _ _ w.any.ensures.ran
          (YieldsList-from_slice _ (w.iter.ensures.rest ∙ later t)) (λ x b q k. search rules)) ∙ w.if-any.true in
          sym (turn t ∙ rw (e, f))
    ]

pub loop-i-preserved : goal.loop-i-preserved
loop-i-preserved c =
    let t = (goal.at.loop-i-preserved c).In-loop-i in
    let e : good_name (n t) ≡ true = sym c.is_name.ensures ∙ c.if-not-is_name.false in
    let f : named (n t) (drop (i t + 1) (N t)) ≡ false = named-any (n t) (drop (i t + 1) (N t)) ∙ sym (any_from_yields_List (λ m. eqb m.first (n t).first && eqb m.last (n t).last) _ _ _ c.any.ensures.ran
    (YieldsList-from_slice _ (c.iter.ensures.rest ∙ later t)) (λ x b q k. search rules)) ∙ c.if-any.false in
    sym (turn t ∙ rw (e, f))

pub returns : goal.returns
returns c =
    let s = c.before.before in
    names-end s.args.names s.args.rank (room s) c.loop-i.i c.loop-i-test.false ∙ c.loop-i.invariant
