use Rattle.std.proofs.Common.{◌≡◌, take, ap, ◌∙◌, arith}
use Rattle.tables.specs.Buckets.{nodes_of}
use Rattle.tables.proofs.Linked.{made_less}
use Rattle.tables.proofs.NodeTable.truncate.Goals as goal

pub returns-clause-done : goal.returns-clause-done
returns-clause-done c =
    let v = c.loop-last.invariant in
    let at : c.loop-last.self.used ≡ c.args.to = omega arith in
    ap (λ k. nodes_of (take k c.loop-last.self.places.now)) at ∙ made_less c.args.self.now.places.now c.loop-last.self.places.now c.args.to c.args.self.now.used c.requires v.4
