-- `step::unused::zero_between` meets its contract: all bytes are zeros if the whole words are and the bytes after them.
use Rattle.std.proofs.Common.{ℕ, ◌-◌, ◌*◌, ◌/◌, List, ◌≡◌, ◌∙◌, sym, eqb, rules, length, drop}
use Rattle.std.proofs.lemmas.Iterator.{YieldsList-from_slice}
use Rattle.std.proofs.lemmas.Iterator.Search.{all_from_yields_List}
use Rattle.std.specs.List.{list_all}
use Rattle.std.specs.Simd.{first_chunks}
use Rattle.paper.specs.Limits.{word_bytes}
use Rattle.paper.specs.Numbers.{le_of, part}
use Rattle.step.specs.Using.{zeros-each, zeros-words}
use Rattle.step.proofs.unused.zero_between.Goals as goal
use Rattle.step.proofs.unused.zero_between.Goals.{After-all}

module _ (c : After-all) where
  abbrev X : List ℕ
  X = part c.args.from (c.args.to - c.args.from) c.args.s.now

  words : c.all.result ≡ list_all (λ w. eqb (le_of (part 0 word_bytes w)) 0) (first_chunks word_bytes (length X / word_bytes) X)
  words =
      all_from_yields_List (λ w. eqb (le_of (part 0 word_bytes w)) 0) _ _ _ c.all.ensures.ran
      (YieldsList-from_slice _ (c.iter.ensures.rest ∙ c.as_chunks.ensures.front)) (λ x b q k. search rules)

pub returns-then-all : goal.returns-then-all
returns-then-all c =
    let a = (goal.at.returns-then-all c).After-all in
    let w = sym (words a) ∙ c.if-all.true in
    let r = all_from_yields_List (λ b. eqb b 0) _ _ _ c.all-then-all.ensures.ran
    (YieldsList-from_slice _ (c.iter-then-all.ensures.rest ∙ c.as_chunks.ensures.back)) (λ x b q k. search rules) in
    r ∙ sym (zeros-words (X a) ∙ rw (w, zeros-each (drop (length (X a) / word_bytes * word_bytes) (X a))))

pub returns-else-all : goal.returns-else-all
returns-else-all c =
    let a = (goal.at.returns-else-all c).After-all in
    let w = sym (words a) ∙ c.if-all.false in
    c.if-all.false ∙ sym (zeros-words (X a) ∙ rw w)
