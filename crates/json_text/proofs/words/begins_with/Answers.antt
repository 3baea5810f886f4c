-- `json_text::words::begins_with` meets its contract: the library's test is the paper's.
use Rattle.std.proofs.Common.{◌≡◌, List, ℕ, ◌-◌, length, take, drop, ap, sym, ◌∙◌}
use Rattle.std.proofs.Math.ListN.{length-drop}
use Rattle.std.proofs.Math.Seq.{take-length}
use Rattle.std.specs.List.{starts_with}
use Rattle.std.proofs.Math.Dec.{eqb}
use Rattle.json_text.specs.Words.{begins-with}
use Rattle.json_text.proofs.words.begins_with.Goals as goal

pub returns : goal.returns
returns c =
    let l = drop c.args.at c.args.s.now in
    let e : take (length c.args.s.now - c.args.at) l ≡ l =
    ap (λ (n : ℕ). take n l) (sym (length-drop c.args.at c.args.s.now)) ∙ take-length l in
    c.starts_with.ensures.value ∙ ap (λ (x : List ℕ). starts_with eqb x c.args.w.now) e ∙ begins-with c.args.w.now l
