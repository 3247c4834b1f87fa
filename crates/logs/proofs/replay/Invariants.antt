use Rattle.std.proofs.Common.{◌≡◌, length, drop}
use Rattle.jobs.specs.Stands.{stands, places}
use Rattle.logs.specs.Logs.{lent}
use Rattle.logs.proofs.Running.{SoFar}
use Rattle.logs.proofs.replay.Given as goal

abbrev pub invariant-loop-i : goal.invariant-loop-i
invariant-loop-i g l = let m = g.G.Grade in
    SoFar m.kind m.means m.weighs (places l.initial.job) (lent l.initial.rows) l.calls l.replies (stands l.job) l.i
    × (places l.job ≡ places l.initial.job)
    × (lent l.rows ≡ lent l.initial.rows)
    × (length l.replies ≡ length l.initial.replies)
    × (drop (length l.calls) l.replies ≡ drop (length l.calls) l.initial.replies)
