use Rattle.std.proofs.Common.{◌+◌, ◌-◌, arith, rules}
use Rattle.numbers.proofs.Writes.{length_more, length_last}
use Rattle.numbers.proofs.width.Goals as goal

pub loop-rest-preserved : goal.loop-rest-preserved
loop-rest-preserved c = (
  search rules,
  omega (arith, length_more (5 - c.loop-rest.n) (5 - (c.loop-rest.n + 1)) c.loop-rest.rest (omega arith) (omega arith) (omega arith)),
)

pub returns : goal.returns
returns c = record {
  is = omega (arith, length_last (5 - c.loop-rest.n) c.loop-rest.rest (omega arith));
  some = omega arith;
  few = omega arith;
}
