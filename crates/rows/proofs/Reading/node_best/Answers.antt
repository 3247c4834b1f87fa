use Rattle.std.proofs.Common.{map, subst, ◌+◌}
use Rattle.rows.specs.Bests.{Tells}
use Rattle.rows.specs.declared.BitEdge.{BitEdge}
use Rattle.tables.specs.Chains.{made}
use Rattle.rows.proofs.Steps.{node_step}
use Rattle.rows.proofs.Reading.node_best.Goals as goal

pub returns : goal.returns
returns g c =
    node_step g.met.G.Grade.laws g.G.Grade.means (map g.G.Grade.weighs c.args.self.now.weights.now) (made c.args.self.now.table.now) c.args.self.now.rows.now c.args.self.now.ready.weighed c.args.self.now.ready.ordered c.args.node c.args.one
    c.fitted.result.one c.fitted.result.child _ c.best-out.result c.best-fitted.result c.put_on.result c.better.result
    c.requires.low c.grade_at-weight.ensures c.fitted.ensures.child c.fitted.ensures.constant (subst (λ (e : BitEdge). Tells g.G.Grade.kind g.G.Grade.means (map g.G.Grade.weighs c.args.self.now.weights.now) (made c.args.self.now.table.now) c.args.self.now.rows.now (c.args.node.part + 1) e.one e.child c.best-out.result) c.left_out.ensures c.best-out.ensures) c.best-fitted.ensures c.put_on.ensures c.better.ensures
