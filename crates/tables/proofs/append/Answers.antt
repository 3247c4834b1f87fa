use Rattle.std.proofs.Common.{◌+◌, arith}
use Rattle.tables.specs.Buckets.{head_at}
use Rattle.tables.proofs.Linked.{pushed, made_push}
use Rattle.tables.proofs.append.Goals as goal

pub returns-clause-fits : goal.returns-clause-fits
returns-clause-fits c = pushed c.args.places.now c.args.used c.hash-bucket.result c.args.node c.requires.left c.hash-bucket.ensures.below c.hash-bucket.ensures.is c.requires.fits

pub returns-clause-nodes : goal.returns-clause-nodes
returns-clause-nodes c = made_push c.args.places.now c.args.used c.args.node (head_at c.args.places.now c.hash-bucket.result) c.hash-bucket.result (c.args.used + 1) (omega (arith, c.requires.left))
