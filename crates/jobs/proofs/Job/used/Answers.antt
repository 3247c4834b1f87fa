use Rattle.std.proofs.Common.{◌∙◌}
use Rattle.tables.specs.Chains.{made}
use Rattle.jobs.proofs.Kept.{used_is}
use Rattle.jobs.proofs.Job.used.Goals as goal

pub returns : goal.returns
returns c =
    c.used.ensures.nodes
    ∙ used_is c.args.self.now.parts (made c.args.self.now.table) c.args.self.now.ledger.records c.args.self.now.ledger.count c.args.self.now.books
