use Rattle.std.proofs.Common.{map, length, sym, refl, ◌∙◌, arith}
use Rattle.std.proofs.lemmas.List.{length-map}
use Rattle.tables.specs.Chains.{made}
use Rattle.jobs.specs.Books.{limits_of}
use Rattle.jobs.proofs.Kept.{used_is, asked_count, asked_range, asked_short, asked_done}
use Rattle.jobs.proofs.Ready.{is_ordered, is_under, are_bits, solved_by_lem, ready}
use Rattle.jobs.proofs.Job.solve.Goals as goal

pub returns-then-weights-self : goal.returns-then-weights-self
returns-then-weights-self g c = record {
  reply = asked_count g.G.Grade.kind c.args.self.now.parts (length c.args.rows.now.rows.now) (limits_of c.args.self.now.ledger.records c.args.self.now.ledger.count) (map g.G.Grade.weighs c.args.weights.now) (λ e. c.if-weights-self.true (sym (length-map c.args.weights.now g.G.Grade.weighs) ∙ e));
  answer = refl;
  named = refl;
  kept = refl;
}

pub returns-then-not-in_range : goal.returns-then-not-in_range
returns-then-not-in_range g c = record {
  reply = asked_range g.G.Grade.kind c.args.self.now.parts (length c.args.rows.now.rows.now) 0 (limits_of c.args.self.now.ledger.records c.args.self.now.ledger.count) (map g.G.Grade.weighs c.args.weights.now) (length-map c.args.weights.now g.G.Grade.weighs ∙ c.if-weights-self.false) (sym c.if-not-in_range.ensures);
  answer = refl;
  named = refl;
  kept = refl;
}

pub returns-then-len-used : goal.returns-then-len-used
returns-then-len-used g c = record {
  reply = asked_short g.G.Grade.kind c.args.self.now.parts (length c.args.rows.now.rows.now) c.used.result (limits_of c.args.self.now.ledger.records c.args.self.now.ledger.count) (map g.G.Grade.weighs c.args.weights.now) (length-map c.args.weights.now g.G.Grade.weighs ∙ c.if-weights-self.false) (sym c.if-not-in_range.ensures) (c.used.ensures.nodes ∙ used_is c.args.self.now.parts (made c.args.self.now.table) c.args.self.now.ledger.records c.args.self.now.ledger.count c.args.self.now.books) (omega (arith, c.if-len-used.true, c.len.ensures));
  answer = refl;
  named = refl;
  kept = refl;
}

pub solve-requires : goal.solve-requires
solve-requires g c = record {
  ready = ready g.G.Grade.kind (map g.G.Grade.weighs c.args.weights.now) c.args.self.now.parts (made c.args.self.now.table) (length-map c.args.weights.now g.G.Grade.weighs ∙ c.if-weights-self.false) c.args.self.now.few (sym c.if-not-in_range.ensures) (is_ordered c.args.self.now.parts (made c.args.self.now.table) c.args.self.now.ledger.records c.args.self.now.ledger.count c.product.result c.args.self.now.books c.product.ensures);
  enough = omega (arith, c.used.ensures.nodes, c.if-len-used.false, c.len.ensures);
  under = is_under c.args.self.now.parts (made c.args.self.now.table) c.args.self.now.ledger.records c.args.self.now.ledger.count c.product.result c.args.self.now.books c.product.ensures;
  bits = are_bits c.args.self.now.parts (made c.args.self.now.table) c.args.self.now.ledger.records c.args.self.now.ledger.count c.product.result c.args.self.now.books c.product.ensures (length (map g.G.Grade.weighs c.args.weights.now)) (length-map c.args.weights.now g.G.Grade.weighs ∙ c.if-weights-self.false);
}

pub returns : goal.returns
returns g c = record {
  reply = asked_done g.G.Grade.kind c.args.self.now.parts (length c.args.rows.now.rows.now) c.used.result (limits_of c.args.self.now.ledger.records c.args.self.now.ledger.count) (map g.G.Grade.weighs c.args.weights.now) (length-map c.args.weights.now g.G.Grade.weighs ∙ c.if-weights-self.false) (sym c.if-not-in_range.ensures) (c.used.ensures.nodes ∙ used_is c.args.self.now.parts (made c.args.self.now.table) c.args.self.now.ledger.records c.args.self.now.ledger.count c.args.self.now.books) (omega (arith, c.if-len-used.false, c.len.ensures));
  answer = solved_by_lem c.args.self.now.parts (made c.args.self.now.table) c.args.self.now.ledger.records c.args.self.now.ledger.count c.product.result c.args.self.now.books c.product.ensures g.G.Grade.kind g.G.Grade.means (map g.G.Grade.weighs c.args.weights.now) c.solve.result (length-map c.args.weights.now g.G.Grade.weighs ∙ c.if-weights-self.false) c.solve.ensures.solved;
  named = c.solve.ensures.named;
  kept = c.solve.ensures.kept;
}
