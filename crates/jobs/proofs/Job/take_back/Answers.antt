use Rattle.std.proofs.Common.{◌<◌, cond, length, sym, ap, arith}
use Rattle.limits.specs.Refusals.{done, refused}
use Rattle.tables.specs.Chains.{made}
use Rattle.tables.proofs.Tables.{made_length}
use Rattle.jobs.specs.Calls.{standing}
use Rattle.jobs.proofs.Kept.{back_fits, back_books, back_limits, back_some}
use Rattle.jobs.proofs.Job.take_back.Goals as goal

pub truncate-requires : goal.truncate-requires
truncate-requires c =
    omega (arith, made_length c.args.self.now.table, back_fits c.args.self.now.parts (made c.args.self.now.table) c.args.self.now.ledger.records c.drop_last-mark.new.self.records c.args.self.now.ledger.count c.drop_last-mark.new.self.count c.drop_last-mark.result c.args.self.now.books c.drop_last-mark.ensures.records c.drop_last-mark.ensures.count c.drop_last-mark.ensures.mark)

pub invariant_of-self : goal.invariant_of-self
invariant_of-self c = record {
  few = c.args.self.now.few;
  books = back_books c.args.self.now.parts (made c.args.self.now.table) c.args.self.now.ledger.records c.drop_last-mark.new.self.records c.args.self.now.ledger.count c.drop_last-mark.new.self.count c.drop_last-mark.result c.args.self.now.books c.drop_last-mark.ensures.records c.drop_last-mark.ensures.count c.drop_last-mark.ensures.mark (made c.truncate.new.self) c.truncate.ensures.done;
}

pub returns : goal.returns
returns c =
    let inside : c.drop_last-mark.new.self.count < length c.args.self.now.ledger.records = omega (arith, c.drop_last-mark.ensures.count, c.args.self.now.ledger.few, c.args.self.now.ledger.whole) in
    record {
      reply = sym (ap (λ b. cond b (refused 12) done) (back_some c.args.self.now.parts (made c.args.self.now.table) c.args.self.now.ledger.records c.drop_last-mark.new.self.records c.args.self.now.ledger.count c.drop_last-mark.new.self.count c.drop_last-mark.result c.args.self.now.books c.drop_last-mark.ensures.records c.drop_last-mark.ensures.count c.drop_last-mark.ensures.mark inside));
      stands = ap (standing c.args.self.now.parts) (back_limits c.args.self.now.parts (made c.args.self.now.table) c.args.self.now.ledger.records c.drop_last-mark.new.self.records c.args.self.now.ledger.count c.drop_last-mark.new.self.count c.drop_last-mark.result c.args.self.now.books c.drop_last-mark.ensures.records c.drop_last-mark.ensures.count c.drop_last-mark.ensures.mark inside);
      places = c.truncate.ensures.places;
    }
