use Rattle.numbers.proofs.Spelled.{one_spelling_lem, signed_one_spelling}
use Rattle.numbers.proofs.one_spelling.Goals as goal

pub returns : goal.returns
returns c = record { unsigned = one_spelling_lem; signed = signed_one_spelling }
