use Rattle.std.proofs.Common.{◌≡◌, map, take}
use Rattle.sheets.specs.Notes.{part_of}
use Rattle.set_chooser.proofs.solved.weights.Given as goal

abbrev pub invariant-loop-next : goal.invariant-loop-next
invariant-loop-next g l = l.weights.items ≡ map g.G.GoalKind.weight_of (map part_of (take l.next-index l.figures))
