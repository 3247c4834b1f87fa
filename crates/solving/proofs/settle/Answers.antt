use Rattle.std.proofs.Common.{true, false, map, arith}
use Rattle.tables.specs.Chains.{made}
use Rattle.solving.proofs.Turning.{turns_under, settles_out, settles_fit}
use Rattle.solving.proofs.settle.Goals as goal

pub best-without-requires : goal.best-without-requires
best-without-requires g c = record {
  low = omega (arith, c.requires.low);
  under = turns_under g.met.G.Grade.laws g.G.Grade.means (map g.G.Grade.weighs c.args.reading.now.weights.now) (made c.args.reading.now.table.now) c.args.reading.now.rows.now c.requires.filled c.args.i c.args.edge.one c.args.edge.child c.requires.low c.requires.stands false _ _ c.turned-out.ensures;
}

pub best-requires : goal.best-requires
best-requires g c = record {
  low = omega (arith, c.requires.low);
  under = turns_under g.met.G.Grade.laws g.G.Grade.means (map g.G.Grade.weighs c.args.reading.now.weights.now) (made c.args.reading.now.table.now) c.args.reading.now.rows.now c.requires.filled c.args.i c.args.edge.one c.args.edge.child c.requires.low c.requires.stands true _ _ c.turned-fit.ensures;
}

pub returns-then-stays_out : goal.returns-then-stays_out
returns-then-stays_out g c =
    settles_out g.met.G.Grade.laws g.G.Grade.means (map g.G.Grade.weighs c.args.reading.now.weights.now) (made c.args.reading.now.table.now) c.args.reading.now.rows.now c.requires.filled c.args.i c.args.edge.one c.args.edge.child c.requires.low c.requires.stands
    _ c.turned-out.result c.turned-fit.result c.best-without.result c.best.result c.put_on-with.result c.grade_at-weight.ensures c.turned-out.ensures c.turned-fit.ensures c.best-without.ensures c.best.ensures c.put_on-with.ensures
    c.stays_out.result c.stays_out.ensures c.if-stays_out.true

pub returns-else-stays_out : goal.returns-else-stays_out
returns-else-stays_out g c =
    settles_fit g.met.G.Grade.laws g.G.Grade.means (map g.G.Grade.weighs c.args.reading.now.weights.now) (made c.args.reading.now.table.now) c.args.reading.now.rows.now c.requires.filled c.args.i c.args.edge.one c.args.edge.child c.requires.low c.requires.stands
    _ c.turned-out.result c.turned-fit.result c.best-without.result c.best.result c.put_on-with.result c.grade_at-weight.ensures c.turned-out.ensures c.turned-fit.ensures c.best-without.ensures c.best.ensures c.put_on-with.ensures
    c.stays_out.result c.stays_out.ensures c.if-stays_out.false
