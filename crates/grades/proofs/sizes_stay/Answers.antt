use Rattle.grades.proofs.Sizes.{sizes_stay_lem}
use Rattle.grades.proofs.sizes_stay.Goals as goal

pub returns : goal.returns
returns g c = sizes_stay_lem g.G.Grade.kind g.met.G.Grade.laws
