use Rattle.diagrams.proofs.Needed.{needed_are}
use Rattle.diagrams.proofs.laws.needed_are_as_described.Goals as goal

pub returns : goal.returns
returns c = needed_are
