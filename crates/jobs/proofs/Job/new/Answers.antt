use Rattle.std.proofs.Common.{arith}
use Rattle.tables.specs.Chains.{made}
use Rattle.jobs.proofs.Kept.{empty_books}
use Rattle.jobs.proofs.Job.new.Goals as goal

pub invariant_of-result : goal.invariant_of-result
invariant_of-result c = record {
  few = omega arith;
  books = empty_books 0 (made c.over.result) c.empty.result.records c.empty.result.count c.over.ensures.none c.empty.ensures;
}
