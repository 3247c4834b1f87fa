use Rattle.std.proofs.Common.{◌≡◌, ◌+◌, ◌≤◌, length, drop}
use Rattle.listings.proofs.Fitting.{chosen}
use Rattle.listings.proofs.lines.fits_end.Given as goal

abbrev pub invariant-loop-name : goal.invariant-loop-name
invariant-loop-name l =
    (l.end ≤ l.room)
    × (l.end + length (chosen (drop l.name-index l.names) l.word) ≡ l.at + length (chosen l.names l.initial.word))
