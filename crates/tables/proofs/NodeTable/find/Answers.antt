use Rattle.std.proofs.Common.{◌≡◌, arith, rules}
use Rattle.tables.specs.Buckets.{node_at}
use Rattle.tables.proofs.Linked.{walk_more}
use Rattle.tables.proofs.NodeTable.find.Goals as goal

pub returns-then-eq : goal.returns-then-eq
returns-then-eq c =
    let is : node_at c.args.self.now.places.now c.in-Some.k ≡ c.args.node = search rules in
    (omega (arith, c.in-Some.ensures, c.loop-k.invariant.0), is)

pub loop-k-preserved : goal.loop-k-preserved
loop-k-preserved c =
    let differs : node_at c.args.self.now.places.now c.in-Some.k ≡ c.args.node → ⊥ = search rules in
    walk_more c.args.self.now.places.now c.args.self.now.used c.args.node c.loop-k.link c.in-Some.k c.args.self.now.fits.chained c.loop-k.invariant c.in-Some.ensures differs
