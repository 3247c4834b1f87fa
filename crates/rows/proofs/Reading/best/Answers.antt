use Rattle.std.proofs.Common.{map, length}
use Rattle.tables.specs.Chains.{made}
use Rattle.rows.proofs.Steps.{told}
use Rattle.rows.proofs.Reading.best.Goals as goal

pub lifted-requires : goal.lifted-requires
lifted-requires g c = record {
  falls = c.top-part.ensures.above c.args.i (length c.args.self.now.rows.now) c.requires.under c.requires.low;
  low = c.top-part.ensures.part;
}

pub returns : goal.returns
returns g c =
    told g.met.G.Grade.laws g.G.Grade.means (map g.G.Grade.weighs c.args.self.now.weights.now) (made c.args.self.now.table.now) c.args.self.now.rows.now c.args.edge.one c.args.edge.child c.top-part.result c.args.i c.lifted.result
    c.requires.low c.top-part.ensures c.lifted.ensures
