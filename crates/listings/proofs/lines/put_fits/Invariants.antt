use Rattle.std.proofs.Common.{drop}
use Rattle.numbers.specs.declared.cursors.Cursor.{Cursor}
use Rattle.numbers.specs.Cursors.{HasRoom, Puts}
use Rattle.listings.proofs.Fitting.{chosen}
use Rattle.listings.proofs.lines.put_fits.Given as goal

-- the lines that are left have room, and once they are put, all are
abbrev pub invariant-loop-name : goal.invariant-loop-name
invariant-loop-name l = record {
  room : HasRoom (chosen (drop l.name-index l.names) l.word) l.cursor;
  all : (end : Cursor) → Puts (chosen (drop l.name-index l.names) l.word) l.cursor end → Puts (chosen l.names l.initial.word) l.initial.cursor end;
}
