use Rattle.diagrams.proofs.Canonical.{canonical}
use Rattle.diagrams.proofs.laws.edges_are_canonical.Goals as goal

pub returns : goal.returns
returns c = canonical
