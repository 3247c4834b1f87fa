use Rattle.spelling.proofs.Sole.{one_spelling_lem}
use Rattle.spelling.proofs.one_spelling.Goals as goal

pub returns : goal.returns
returns c = one_spelling_lem
