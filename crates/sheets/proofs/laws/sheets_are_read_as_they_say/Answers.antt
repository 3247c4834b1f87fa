use Rattle.sheets.proofs.Saying.{read_as_it_says}
use Rattle.sheets.proofs.laws.sheets_are_read_as_they_say.Goals as goal

pub returns : goal.returns
returns c = read_as_it_says
