use Rattle.diagrams.proofs.Constants.{one_constant}
use Rattle.diagrams.proofs.laws.a_node_has_one_constant.Goals as goal

pub returns : goal.returns
returns c = one_constant
