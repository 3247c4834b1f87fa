use Rattle.std.proofs.Common.{◌≡◌, ◌-◌, ◌<◌, eqb, ◌⊎◌, drop}
use Rattle.numbers.specs.Numbers.{read_number, from_place, carry, rest_of_number}
use Rattle.numbers.proofs.read_number.Given as goal

abbrev pub invariant-loop-i : goal.invariant-loop-i
invariant-loop-i l =
    (l.value < l.weight)
    × (((l.i ≡ 0) × (l.weight ≡ 1)) ⊎ ((l.i ≡ 1) × (l.weight ≡ 128)) ⊎ ((l.i ≡ 2) × (l.weight ≡ 16384))
    ⊎ ((l.i ≡ 3) × (l.weight ≡ 2097152)) ⊎ ((l.i ≡ 4) × (l.weight ≡ 268435456)))
    × (read_number l.bytes l.at ≡ from_place l.at (carry l.weight l.value l.i (rest_of_number (4 - l.i) (eqb l.i 0) (drop l.i l.rest))))
