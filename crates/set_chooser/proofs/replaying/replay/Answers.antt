use Rattle.set_chooser.proofs.Promised.{listings_right}
use Rattle.set_chooser.proofs.replaying.replay.Goals as goal

pub returns-clause-sheets : goal.returns-clause-sheets
returns-clause-sheets g c = listings_right
