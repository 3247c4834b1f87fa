use Rattle.std.proofs.Common.{map, arith}
use Rattle.rows.proofs.Steps.{lift_step}
use Rattle.rows.proofs.Reading.lifted.Goals as goal

pub loop-j-preserved : goal.loop-j-preserved
loop-j-preserved g c = (
  omega arith,
  lift_step g.met.G.Grade.laws g.G.Grade.means (map g.G.Grade.weighs c.args.self.now.weights.now) c.args.self.now.ready.weighed c.args.from c.loop-j.j _ c.args.best c.loop-j.best c.put_on.result c.better-best.result
      (omega arith) (omega arith) c.grade_at-weight.ensures c.put_on.ensures c.better-best.ensures c.loop-j.invariant.1,
)
