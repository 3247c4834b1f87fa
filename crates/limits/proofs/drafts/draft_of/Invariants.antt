use Rattle.std.proofs.Common.{◌≡◌}
use Rattle.limits.specs.Drafts.{opened, with_terms, drafted}
use Rattle.limits.proofs.drafts.draft_of.Given as goal

abbrev pub invariant-loop-term : goal.invariant-loop-term
invariant-loop-term g l = with_terms opened l.yielded ≡ drafted l.draft.coefficients l.draft.last
