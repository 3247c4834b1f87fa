use Rattle.std.proofs.Common.{map}
use Rattle.tables.specs.Chains.{made}
use Rattle.rows.proofs.Steps.{row_is}
use Rattle.rows.proofs.Reading.row.Goals as goal

pub returns : goal.returns
returns g c =
    row_is g.met.G.Grade.laws g.G.Grade.means (map g.G.Grade.weighs c.args.self.now.weights.now) (made c.args.self.now.table.now) c.args.self.now.rows.now c.args.k c.node-node.result _ c.node-node.ensures c.node_best-zero.ensures c.node_best-one.ensures
