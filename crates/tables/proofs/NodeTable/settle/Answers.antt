use Rattle.std.proofs.Common.{true, false, sym, subst}
use Rattle.diagrams.specs.Apply.{Cofactor}
use Rattle.diagrams.proofs.Settle.{cofactor_fit, cofactor_out, from_next}
use Rattle.diagrams.proofs.Steps.{cofactor_skip}
use Rattle.tables.specs.Places.{made}
use Rattle.tables.specs.Buckets.{node_at}
use Rattle.tables.proofs.Tables.{node_found}
use Rattle.tables.proofs.NodeTable.settle.Goals as goal

pub returns-then-node-part : goal.returns-then-node-part
returns-then-node-part c =
    cofactor_skip (made c.args.self.now) c.args.part c.args.edge c.args.fitted
    (from_next (made c.args.self.now) c.args.part c.in-Place.k c.args.edge.child (node_at c.args.self.now.places.now c.in-Place.k) c.in-Place.is (node_found c.args.self.now c.args.part c.in-Place.k c.args.edge.child c.in-Place.is c.requires.3) c.if-node-part.true c.requires.3)

pub returns-then-fitted : goal.returns-then-fitted
returns-then-fitted c =
    let f = node_found c.args.self.now c.args.part c.in-Place.k c.args.edge.child c.in-Place.is c.requires.3 in
    subst (λ x. Cofactor (made c.args.self.now) c.args.part c.args.edge x c.fitted_edge.result) (sym c.if-fitted.true)
    (subst (Cofactor (made c.args.self.now) c.args.part c.args.edge true) (sym c.fitted_edge.ensures)
    (cofactor_fit c.requires.0 (made c.args.self.now) c.requires.2.sound c.args.part c.in-Place.k (node_at c.args.self.now.places.now c.in-Place.k) c.args.edge c.in-Place.is f c.if-node-part.false))

pub returns-else-fitted : goal.returns-else-fitted
returns-else-fitted c =
    let f = node_found c.args.self.now c.args.part c.in-Place.k c.args.edge.child c.in-Place.is c.requires.3 in
    subst (λ x. Cofactor (made c.args.self.now) c.args.part c.args.edge x c.left_out_edge.result) (sym c.if-fitted.false)
    (subst (Cofactor (made c.args.self.now) c.args.part c.args.edge false) (sym c.left_out_edge.ensures)
    (cofactor_out c.requires.0 (made c.args.self.now) c.requires.2.sound c.args.part c.in-Place.k (node_at c.args.self.now.places.now c.in-Place.k) c.args.edge c.in-Place.is f c.if-node-part.false))
