use Rattle.std.proofs.Common.{◌≡◌, drop}
use Rattle.spelling.specs.Judging.{judge_terms}
use Rattle.recording.proofs.judging.judge_terms.Given as goal

abbrev pub invariant-loop-term : goal.invariant-loop-term
invariant-loop-term l = judge_terms 0 l.terms ≡ judge_terms l.least (drop l.term-index l.terms)
