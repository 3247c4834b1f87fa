use Rattle.std.proofs.Common.{◌≡◌, ◌≢◌, rules}
use Rattle.std.proofs.lemmas.Iterator.{IsFirst-from_position, YieldsList-from_slice}
use borrow.Author.Tests.{tests}
use Rattle.memories.proofs.Pairs.{placed}
use Rattle.memories.proofs.Same.{same_question}
use Rattle.memories.proofs.place.Goals as goal

pub returns : goal.returns
returns c =
    let q = c.args.q.now in
    placed q c.args.pairs.now c.position.result
    (IsFirst-from_position _ _ _ (λ x. x.question ≡ q) (λ x. x.question ≢ q) c.position.ensures.ran (YieldsList-from_slice c.args.pairs.now cc)
    (λ x k p. same_question x.now.question q (search rules))
    (λ x k p. search (rules, tests)))
