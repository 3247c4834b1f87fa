use Rattle.tables.proofs.Tables.{part_is}
use Rattle.tables.proofs.NodeTable.part_of.Goals as goal

pub returns-in-Place : goal.returns-in-Place
returns-in-Place c = part_is c.args.self.now 0 c.in-Place.k c.args.at c.in-Place.is c.requires
