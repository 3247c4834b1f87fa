use Rattle.std.proofs.Common.{◌≡◌, ◌+◌, length, drop}
use Rattle.spelling.specs.Spelling.{spelled_terms}
use Rattle.recording.proofs.payloads.terms_size.Given as goal

abbrev pub invariant-loop-term : goal.invariant-loop-term
invariant-loop-term l = l.size + length (spelled_terms (drop l.term-index l.terms)) ≡ length (spelled_terms l.terms)
