use Rattle.std.proofs.Common.{sym, arith, rules}
use Rattle.recording.proofs.writing.put_record.Goals as goal
use Rattle.recording.proofs.Puts.{appended}

pub returns : goal.returns
returns c =
    appended _ c.code-code.result c.payload_size-size.result c.args.cursor.now c.put_number.new.self c.put_number-2.new.self c.put_payload.new.cursor
    (sym c.in_ok-judge.ensures.is) (search rules) c.payload_size-size.ensures (omega arith) c.put_number.ensures c.put_number-2.ensures c.put_payload.ensures
