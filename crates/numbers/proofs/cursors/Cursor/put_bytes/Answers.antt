use Rattle.std.proofs.Common.{refl, arith, rules}
use Rattle.numbers.proofs.Chains.{mid_put}
use Rattle.numbers.proofs.cursors.Cursor.put_bytes.Goals as goal

pub returns : goal.returns
returns c = record {
  same = refl;
  size = search rules;
  at = refl;
  out = mid_put c.args.self.now.at _ c.args.self.now.out.now _ c.args.bytes.now c.copy_from_slice.ensures.after (omega arith) (omega arith);
}
