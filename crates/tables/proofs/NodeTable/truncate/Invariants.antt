use Rattle.std.proofs.Common.{◌≡◌, ◌≤◌}
use Rattle.tables.specs.Buckets.{nodes_of}
use Rattle.tables.specs.Chains.{room}
use Rattle.tables.proofs.NodeTable.truncate.Given as goal

abbrev pub invariant-loop-last : goal.invariant-loop-last
invariant-loop-last l =
    (l.self.used ≡ l.last)
    × (l.to ≤ l.last)
    × (l.last ≤ l.initial.self.used)
    × (room l.self ≡ room l.initial.self)
    × (nodes_of l.self.places.now ≡ nodes_of l.initial.self.places.now)
