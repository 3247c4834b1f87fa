use Rattle.std.proofs.Common.{◌≡◌, ◌-◌, ◌*◌, ◌^◌, ◌≤◌, length, drop, ◌+ℤ◌, nat_abs}
use Rattle.limits.specs.Limits.{sum}
use Rattle.limits.specs.Choices.{bits}
use Rattle.jobs.proofs.checking.summed.Given as goal

abbrev pub invariant-loop-coefficient : goal.invariant-loop-coefficient
invariant-loop-coefficient l =
    (l.total +ℤ sum (drop l.coefficient-index l.coefficient-items) (bits (length l.coefficient-items - l.coefficient-index) l.rest) ≡ sum l.coefficient-items (bits (length l.coefficient-items) l.initial.rest))
    × (nat_abs l.total ≤ l.coefficient-index * 2 ^ 31)
