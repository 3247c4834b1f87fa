use Rattle.std.proofs.Common.{rules}
use Rattle.numbers.specs.Numbers.{encode_signed}
use Rattle.numbers.specs.Cursors.{Puts}
use Rattle.recording.proofs.payloads.put_part.Goals as goal
use Rattle.recording.proofs.Puts.{puts_three}

pub returns : goal.returns
returns c =
    let mass : Puts (encode_signed c.args.part.mass) c.put_bytes.new.self c.put_signed.new.self = search rules in
    puts_three _ _ _ _ c.put_number.new.self c.put_bytes.new.self _ c.put_number.ensures c.put_bytes.ensures
    (puts_three _ _ _ _ c.put_signed.new.self c.put_number-2.new.self _ mass c.put_number-2.ensures c.put_number-3.ensures)
