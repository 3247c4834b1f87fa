use Rattle.std.proofs.Common.{◌≡◌, ◌+◌, ◌-◌, ◌<◌, ◌⊎◌, length}
use lib.Seq.{sets}
use Rattle.numbers.specs.Numbers.{groups, encode}
use Rattle.numbers.proofs.cursors.put_groups.Given as goal

abbrev pub invariant-loop-rest : goal.invariant-loop-rest
invariant-loop-rest l =
    (((l.next ≡ l.at) × (l.rest < 4294967296)) ⊎ ((l.next ≡ l.at + 1) × (l.rest < 33554432)) ⊎ ((l.next ≡ l.at + 2) × (l.rest < 262144))
    ⊎ ((l.next ≡ l.at + 3) × (l.rest < 2048)) ⊎ ((l.next ≡ l.at + 4) × (l.rest < 16)))
    × (l.next + length (groups (4 - (l.next - l.at)) l.rest) ≡ l.at + length (encode l.value))
    × (sets l.out l.next (groups (4 - (l.next - l.at)) l.rest) ≡ sets l.initial.out l.at (encode l.value))

abbrev pub decreases-loop-rest : goal.decreases-loop-rest
decreases-loop-rest l = l.rest
