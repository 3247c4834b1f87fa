use Rattle.std.proofs.Common.{◌<◌, ◌≤◌, length, arith}
use Rattle.std.proofs.lemmas.List.{length-map}
use Rattle.std.proofs.lemmas.Bool.{some_since}
use Rattle.rows.proofs.Steps.{all_map_at}
use Rattle.rows.proofs.grade_at.Goals as goal

pub unwrap-requires : goal.unwrap-requires
unwrap-requires g c =
    let low : c.args.i < length c.args.weights.now = omega (arith, c.requires.low, length-map c.args.weights.now g.G.Grade.weighs) in
    let small = all_map_at (λ v. g.G.Grade.kind.size v ≤ 1000000) g.G.Grade.weighs c.args.weights.now c.args.i c.index-weights-i.result low c.index-weights-i.is c.requires.weighed.small in
    some_since c.of_weight.result _ _ c.of_weight.ensures (λ large. omega arith)
