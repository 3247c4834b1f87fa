use Rattle.std.proofs.Common.{map, length, Ok, ap, ◌∙◌, subst, arith, rules}
use Rattle.std.proofs.lemmas.Grind.{common_steps}
use Rattle.std.proofs.lemmas.Simd.{map-map}
use Rattle.jobs.specs.Stands.{stands}
use Rattle.set_chooser.specs.Verdicts.{Judged}
use Rattle.set_chooser.proofs.solved.solved_by.Goals as goal

pub returns-in_err-answer : goal.returns-in_err-answer
returns-in_err-answer g c =
    λ ps is. g.met.G.GoalKind.judges ps (stands c.args.job.now) (length c.args.lent.now) c.from_residual.result
    (λ shows same. subst (λ ws. Judged g.G.Grade.kind shows ws (stands c.args.job.now) (length c.args.lent.now) c.from_residual.result)
    (ap (map g.G.Grade.weighs) is ∙ map-map g.G.Grade.weighs g.G.GoalKind.weight_of ps) (search rules))

pub returns : goal.returns
returns g c =
    λ ps is. g.met.G.GoalKind.judges ps (stands c.args.job.now) (length c.args.lent.now) (Ok c.map.result)
    (λ shows same. subst (λ ws. Judged g.G.Grade.kind shows ws (stands c.args.job.now) (length c.args.lent.now) (Ok c.map.result))
    (ap (map g.G.Grade.weighs) is ∙ map-map g.G.Grade.weighs g.G.GoalKind.weight_of ps) (grind (arith, common_steps)))
