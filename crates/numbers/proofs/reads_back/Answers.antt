use Rattle.numbers.proofs.Spelled.{reads_back_lem, signed_reads_back}
use Rattle.numbers.proofs.reads_back.Goals as goal

pub returns : goal.returns
returns c = record { unsigned = reads_back_lem; signed = signed_reads_back }
