use Rattle.std.proofs.Common.{rules, tests, cond, ltb, List, map, length, not, Some, None, zero-add, sym, ap, ◌∙◌}
use Rattle.std.specs.List.{position_or_len}
use Rattle.std.proofs.lemmas.Iterator.{YieldsList-from_slice}
use Rattle.std.proofs.lemmas.Iterator.Search.{position_from_yields_List}
use Rattle.limits.specs.Choices.{bits}
use Rattle.limits.specs.Limits.{keeps}
use Rattle.jobs.specs.Calls.{broken}
use Rattle.jobs.specs.declared.ledger.Record.{Record}
use Rattle.jobs.proofs.Sums.{broken_is}
use Rattle.jobs.proofs.ledger.Ledger.first_broken.Goals as goal

pub returns : goal.returns
returns c =
    ap (λ (rs : List Record). broken 0 (map (λ (r : Record). r.limit) rs) (bits c.args.parts c.args.choice.0)) (sym c.standing.ensures)
    ∙ (broken_is 0 c.standing.result.now (bits c.args.parts c.args.choice.0)
    ∙ (ap (λ n. cond (ltb (position_or_len (λ (r : Record). not (keeps r.limit (bits c.args.parts c.args.choice.0))) c.standing.result.now) (length c.standing.result.now)) (Some n) None) (zero-add (position_or_len (λ (r : Record). not (keeps r.limit (bits c.args.parts c.args.choice.0))) c.standing.result.now)) ∙ sym (position_from_yields_List (λ (r : Record). not (keeps r.limit (bits c.args.parts c.args.choice.0))) _ _ c.position.result c.position.ensures.ran (YieldsList-from_slice c.standing.result.now cc) (λ x b q k. search (rules, tests)))))
