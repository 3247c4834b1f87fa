use Rattle.tables.specs.Buckets.{next_at}
use Rattle.tables.proofs.Linked.{popped, nodes_head}
use Rattle.tables.proofs.unlink.Goals as goal

pub returns-clause-fits : goal.returns-clause-fits
returns-clause-fits c = popped c.args.places.now c.args.last c.hash-bucket.result c.hash-bucket.ensures.below c.hash-bucket.ensures.is c.requires

pub returns-clause-nodes : goal.returns-clause-nodes
returns-clause-nodes c = nodes_head c.args.places.now c.hash-bucket.result (next_at c.args.places.now c.args.last)
