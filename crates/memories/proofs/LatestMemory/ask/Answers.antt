use Rattle.memories.proofs.Pairs.{one_edge}
use Rattle.memories.proofs.LatestMemory.ask.Goals as goal

pub returns-clause-once : goal.returns-clause-once
returns-clause-once c = λ e f h k. one_edge c.args.self.now.pairs.items c.args.q.now e f c.args.self.now.once h k
