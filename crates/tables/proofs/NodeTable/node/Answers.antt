use Rattle.std.proofs.Common.{arith}
use Rattle.tables.proofs.Tables.{made_length, nth_made}
use Rattle.tables.proofs.NodeTable.node.Goals as goal

pub returns : goal.returns
returns c = nth_made c.args.self.now c.args.k (omega (arith, c.requires, made_length c.args.self.now))
