use Rattle.grades.proofs.Optimal.{rule_is_first_lem}
use Rattle.grades.proofs.rule_is_first.Goals as goal

pub returns : goal.returns
returns g c = rule_is_first_lem g.G.Grade.kind g.met.G.Grade.laws
