use Rattle.spelling.proofs.Back.{reads_back_lem}
use Rattle.spelling.proofs.reads_back.Goals as goal

pub returns : goal.returns
returns c = reads_back_lem
