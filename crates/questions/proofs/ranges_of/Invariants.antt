use Rattle.std.proofs.Common.{◌≡◌, length}
use Rattle.questions.specs.Ranges.{RangesAre}
use Rattle.questions.proofs.ranges_of.Given as goal

abbrev pub invariant-loop-part : goal.invariant-loop-part
invariant-loop-part l = record { room : length l.ranges ≡ 49; each : RangesAre l.parts l.coefficients l.part l.ranges }
