use Rattle.std.proofs.Common.{◌≡◌, ◌++◌, drop}
use Rattle.std.specs.List.{concat}
use Rattle.listings.specs.Listings.{contents}
use Rattle.listings.proofs.texts.joined.Given as goal

abbrev pub invariant-loop-piece : goal.invariant-loop-piece
invariant-loop-piece l = l.line.items ++ concat (contents (drop l.piece-index l.pieces)) ≡ concat (contents l.pieces)
