use Rattle.tables.specs.Chains.{made}
use Rattle.solving.proofs.Turning.{turns_fit}
use Rattle.solving.proofs.turned.Goals as goal

pub returns-then-fitted : goal.returns-then-fitted
returns-then-fitted c =
    turns_fit (made c.args.table.now) c.args.i c.args.edge.one c.args.edge.child c.args.fitted c.in-Place.k c.node-node.result c.in-Place.is c.node-node.ensures c.if-node-i.false
    c.fitted.result.one c.fitted.result.child c.if-fitted.true c.fitted.ensures.child c.fitted.ensures.constant
