use Rattle.std.proofs.Common.{ap, ◌∙◌}
use Rattle.std.proofs.iter.SoFar.{exit_by}
use Rattle.limits.specs.Drafts.{opened, with_terms}
use Rattle.limits.proofs.Taken.{takes_one}
use Rattle.limits.proofs.drafts.draft_of.Goals as goal

pub loop-term-preserved : goal.loop-term-preserved
loop-term-preserved g c =
    takes_one c.loop-term.yielded c.in-Some.term c.loop-term.draft.coefficients c.term.new.self.coefficients c.loop-term.draft.last c.term.new.self.last c.term.ensures.coefficients c.term.ensures.last c.loop-term.invariant

pub returns : goal.returns
returns g c =
    let (run, from, whole, read) = exit_by g.I.Iterator.next_gives (c.loop-term.yielded, c.loop-term.yielded_by) c.next.new.self c.in-None.ensures.steps in
    (run, from ∙ c.into_iter-term-iterator.ensures.into_iter_gives, whole, ap (with_terms opened) read.0 ∙ c.loop-term.invariant)
