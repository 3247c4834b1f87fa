use Rattle.tables.proofs.Linked.{Walk}
use Rattle.tables.proofs.NodeTable.find.Given as goal

abbrev pub invariant-loop-k : goal.invariant-loop-k
invariant-loop-k l = Walk l.self.places.now l.self.used l.node l.link

abbrev pub decreases-loop-k : goal.decreases-loop-k
decreases-loop-k l = l.link
