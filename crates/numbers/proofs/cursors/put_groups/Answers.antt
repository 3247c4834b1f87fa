use Rattle.std.proofs.Common.{◌+◌, ◌-◌, sym, ◌∙◌, arith, rules}
use Rattle.numbers.proofs.Writes.{length_more, length_last, length_some, sets_more, sets_last}
use Rattle.numbers.proofs.cursors.put_groups.Goals as goal

pub bounds-out-next : goal.bounds-out-next
bounds-out-next c = omega (arith, length_some (4 - (c.loop-rest.next - c.args.at)) c.loop-rest.rest)

pub loop-rest-preserved : goal.loop-rest-preserved
loop-rest-preserved c = (
  search rules,
  omega (
    arith,
    length_more (4 - (c.loop-rest.next - c.args.at)) (4 - (c.loop-rest.next + 1 - c.args.at)) c.loop-rest.rest
        (omega arith) (omega arith) (omega arith),
  ),
  sym (sets_more c.loop-rest.out c.loop-rest.next (4 - (c.loop-rest.next - c.args.at))
      (4 - (c.loop-rest.next + 1 - c.args.at)) c.loop-rest.rest _ (search rules) (omega arith) (omega arith) (omega arith))
      ∙ c.loop-rest.invariant.2,
)

pub bounds-out-next-2 : goal.bounds-out-next-2
bounds-out-next-2 c = omega (arith, length_some (4 - (c.loop-rest.next - c.args.at)) c.loop-rest.rest)

pub returns : goal.returns
returns c = record {
  end = omega (arith, length_last (4 - (c.loop-rest.next - c.args.at)) c.loop-rest.rest (omega arith));
  out = sym (sets_last c.loop-rest.out c.loop-rest.next (4 - (c.loop-rest.next - c.args.at)) c.loop-rest.rest (omega arith))
      ∙ c.loop-rest.invariant.2;
}
