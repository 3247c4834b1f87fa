use Rattle.std.proofs.Common.{get_or, arith, rules}
use Rattle.numbers.specs.Numbers.{encode_signed}
use Rattle.numbers.specs.Cursors.{Puts}
use Rattle.recording.proofs.payloads.put_terms.Goals as goal
use Rattle.recording.proofs.Puts.{blank, puts_term, term_length}

pub loop-term-preserved : goal.loop-term-preserved
loop-term-preserved c =
    let term = get_or c.args.terms.now c.loop-term.term-index blank in
    let part = rw c.from.ensures at c.put_number.ensures in
    let coefficient : Puts (encode_signed term.coefficient) c.put_number.new.self c.put_signed.new.self = search rules in
    let size = term_length c.args.terms.now c.loop-term.term-index blank c.loop-term-test.true in
    record {
      room = omega (arith, part.at, coefficient.at);
      all = λ end rest. c.loop-term.invariant.all end
          (puts_term c.args.terms.now c.loop-term.term-index blank c.loop-term.cursor c.put_number.new.self c.put_signed.new.self end
          c.loop-term-test.true part coefficient rest);
    }
