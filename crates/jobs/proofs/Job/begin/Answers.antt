use Rattle.tables.specs.Chains.{made}
use Rattle.jobs.proofs.Kept.{empty_books}
use Rattle.jobs.proofs.Job.begin.Goals as goal

pub invariant_of-self : goal.invariant_of-self
invariant_of-self c = record {
  few = c.if-parts-gt48.false;
  books = empty_books c.args.parts (made c.clear.new.self) c.drop_all.new.self.records c.drop_all.new.self.count c.clear.ensures.none c.drop_all.ensures.count;
}
