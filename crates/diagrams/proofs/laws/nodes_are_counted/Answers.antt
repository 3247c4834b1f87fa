use Rattle.diagrams.proofs.Held.{held_count}
use Rattle.diagrams.proofs.laws.nodes_are_counted.Goals as goal

pub returns : goal.returns
returns c = held_count
