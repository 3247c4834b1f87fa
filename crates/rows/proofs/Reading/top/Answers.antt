use Rattle.std.proofs.Common.{map, sym, ◌∙◌, ap}
use Rattle.rows.specs.Bests.{row_at}
use Rattle.tables.specs.Chains.{made}
use Rattle.rows.proofs.Values.{inside_at}
use Rattle.rows.proofs.Steps.{tops_place}
use Rattle.rows.proofs.Reading.top.Goals as goal

pub returns-in-Place : goal.returns-in-Place
returns-in-Place g c =
    tops_place g.met.G.Grade.laws g.G.Grade.means (map g.G.Grade.weighs c.args.self.now.weights.now) (made c.args.self.now.table.now) c.args.self.now.rows.now c.args.edge.one c.args.edge.child c.in-Place.k c.node.result c.index-self-k.result c.grade.result
    c.args.self.now.ready.ordered c.in-Place.is c.node.ensures c.index-self-k.is (inside_at (made c.args.self.now.table.now) 0 _ c.in-Place.k c.args.edge.child c.in-Place.is c.requires).1 (c.grade.ensures ∙ ap (λ r. row_at r c.args.edge.one) (sym c.index-self-k.is))
