use Rattle.sheets.proofs.Saying.{says_one_thing}
use Rattle.sheets.proofs.laws.a_sheet_says_one_thing.Goals as goal

pub returns : goal.returns
returns c = says_one_thing
