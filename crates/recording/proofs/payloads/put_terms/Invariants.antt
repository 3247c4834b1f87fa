use Rattle.std.proofs.Common.{drop}
use Rattle.numbers.specs.declared.cursors.Cursor.{Cursor}
use Rattle.numbers.specs.Cursors.{HasRoom, Puts}
use Rattle.spelling.specs.Spelling.{spelled_terms}
use Rattle.recording.proofs.payloads.put_terms.Given as goal

-- the terms that are left have room, and once they are put, all are
abbrev pub invariant-loop-term : goal.invariant-loop-term
invariant-loop-term l = record {
  room : HasRoom (spelled_terms (drop l.term-index l.terms)) l.cursor;
  all : (end : Cursor) → Puts (spelled_terms (drop l.term-index l.terms)) l.cursor end → Puts (spelled_terms l.terms) l.initial.cursor end;
}
