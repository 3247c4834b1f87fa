use Rattle.std.proofs.Common.{◌≡◌, map, length}
use Rattle.tables.specs.Chains.{made}
use Rattle.rows.specs.Bests.{RightRows}
use Rattle.rows.proofs.fill.Given as goal

abbrev pub invariant-loop-k : goal.invariant-loop-k
invariant-loop-k g l = let m = g.G.Grade in
    RightRows m.kind m.means (map m.weighs l.weights) (made l.table) l.rows.rows.now l.k
    × (length l.rows.rows.now ≡ length l.initial.rows.rows.now)
    × (l.rows.rows.ghost_name ≡ l.initial.rows.rows.ghost_name)
