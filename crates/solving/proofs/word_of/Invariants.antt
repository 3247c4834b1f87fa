use Rattle.std.proofs.Common.{◌≡◌, ◌+◌, ◌*◌, ◌^◌, ◌<◌, map, length, drop}
use Rattle.limits.specs.Choices.{word}
use Rattle.grades.specs.Rule.{chosen}
use Rattle.tables.specs.Chains.{made}
use Rattle.rows.specs.Ones.{ones}
use Rattle.solving.specs.Settling.{StandsAt}
use Rattle.solving.proofs.word_of.Given as goal

abbrev pub invariant-loop-i : goal.invariant-loop-i
invariant-loop-i g l = let m = g.G.Grade in
    (l.choice < 2 ^ l.i)
    × StandsAt (made l.reading.table.now) (length (map m.weighs l.reading.weights.now)) l.i l.edge.one l.edge.child
    × (word (chosen m.kind (map m.weighs l.reading.weights.now) (ones (made l.reading.table.now) 0 l.initial.edge.one l.initial.edge.child)) ≡ l.choice + 2 ^ l.i * word (chosen m.kind (drop l.i (map m.weighs l.reading.weights.now)) (ones (made l.reading.table.now) l.i l.edge.one l.edge.child)))
