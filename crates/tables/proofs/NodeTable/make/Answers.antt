use Rattle.std.proofs.Common.{◌≡◌, sym, subst, rules}
use Rattle.tables.specs.Places.{Made}
use Rattle.tables.proofs.Tables.{make_found, make_full, make_new}
use Rattle.tables.proofs.NodeTable.make.Goals as goal

pub returns-in-Some : goal.returns-in-Some
returns-in-Some c = λ parts ts table m.
    make_found parts ts c.args.self.now table c.args.part c.args.fit c.args.out m c.in-Some.k _ (sym c.node_of-node.ensures) c.in-Some.ensures.0 c.in-Some.ensures.1 _ (sym c.edge_to.ensures)

pub returns-in_err-k : goal.returns-in_err-k
returns-in_err-k c = λ parts ts table m.
    let d : c.args.fit ≡ c.args.out → ⊥ = search rules in
    let p = c.in_err-k.ensures in
    subst (Made parts ts c.args.self.now c.push.new.self c.args.part c.args.fit c.args.out) (sym c.from_residual.ensures)
    (make_full parts ts c.args.self.now table c.args.part c.args.fit c.args.out m _ (sym c.node_of-node.ensures) d c.in_default.ensures c.push.new.self p.places p.done.0 p.done.1)

pub returns : goal.returns
returns c = λ parts ts table m.
    let d : c.args.fit ≡ c.args.out → ⊥ = search rules in
    let p = c.in_ok-k.ensures in
    make_new parts ts c.args.self.now table c.args.part c.args.fit c.args.out m _ (sym c.node_of-node.ensures) d c.in_default.ensures c.push.new.self p.places c.in_ok-k.k p.done.0 p.done.2 _ (sym c.edge_to-2.ensures)
