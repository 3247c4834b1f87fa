use Rattle.std.proofs.Common.{◌≡◌, ◌+◌, ◌-◌, ◌<◌, ◌⊎◌, length}
use Rattle.numbers.specs.Numbers.{groups, encode}
use Rattle.numbers.proofs.width.Given as goal

abbrev pub invariant-loop-rest : goal.invariant-loop-rest
invariant-loop-rest l =
    (((l.n ≡ 1) × (l.rest < 4294967296)) ⊎ ((l.n ≡ 2) × (l.rest < 33554432)) ⊎ ((l.n ≡ 3) × (l.rest < 262144))
    ⊎ ((l.n ≡ 4) × (l.rest < 2048)) ⊎ ((l.n ≡ 5) × (l.rest < 16)))
    × (l.n + length (groups (5 - l.n) l.rest) ≡ length (encode l.value) + 1)

abbrev pub decreases-loop-rest : goal.decreases-loop-rest
decreases-loop-rest l = l.rest
