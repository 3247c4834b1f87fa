use Rattle.sheets.proofs.Saying.{spelled_by_its_records}
use Rattle.sheets.proofs.laws.sheets_are_spelled_by_their_records.Goals as goal

pub returns : goal.returns
returns c = spelled_by_its_records
