use Rattle.std.proofs.Common.{rules, tests, leb, sym, ◌∙◌}
use Rattle.std.proofs.lemmas.Iterator.{YieldsList-from_slice}
use Rattle.std.proofs.lemmas.Iterator.Search.{all_from_yields_List}
use Rattle.std.proofs.lemmas.List.Folds.{list_all-map}
use Rattle.jobs.proofs.Ranges.{there}
use Rattle.jobs.proofs.weighing.in_range.Goals as goal

pub returns : goal.returns
returns g c =
    let m = g.G.Grade in
    all_from_yields_List (λ w. leb (m.kind.size (m.weighs w)) 1000000) _ _ c.all.result c.all.ensures.ran (YieldsList-from_slice c.args.weights.now cc) (λ x b q k. search (rules, tests, there))
    ∙ sym (list_all-map (λ v. leb (m.kind.size v) 1000000) m.weighs c.args.weights.now)
