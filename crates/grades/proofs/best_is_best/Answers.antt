use Rattle.grades.proofs.Optimal.{best_is_best_lem}
use Rattle.grades.proofs.best_is_best.Goals as goal

pub returns : goal.returns
returns g c = best_is_best_lem g.G.Grade.kind g.met.G.Grade.laws
