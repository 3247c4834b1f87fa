use Rattle.grades.proofs.Optimal.{rule_settles_lem}
use Rattle.grades.proofs.rule_settles.Goals as goal

pub returns : goal.returns
returns g c = rule_settles_lem g.G.Grade.kind g.met.G.Grade.laws
