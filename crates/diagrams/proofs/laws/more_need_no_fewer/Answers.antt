use Rattle.diagrams.proofs.Needed.{more_need_no_fewer_lem}
use Rattle.diagrams.proofs.laws.more_need_no_fewer.Goals as goal

pub returns : goal.returns
returns c = more_need_no_fewer_lem
