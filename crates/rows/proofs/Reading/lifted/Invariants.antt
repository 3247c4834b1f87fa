use Rattle.std.proofs.Common.{◌≤◌, map}
use Rattle.rows.specs.Bests.{Lifts}
use Rattle.rows.proofs.Reading.lifted.Given as goal

abbrev pub invariant-loop-j : goal.invariant-loop-j
invariant-loop-j g l = let m = g.G.Grade in
    (l.to ≤ l.j) × Lifts m.kind m.means (map m.weighs l.self.weights.now) l.initial.j l.j l.initial.best l.best
