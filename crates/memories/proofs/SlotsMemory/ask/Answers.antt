use Rattle.std.proofs.Common.{◌≡◌, ◌%◌, None, length, get_or, sym, ap, ◌∙◌, rules}
use Rattle.memories.specs.Held.{question_hash}
use Rattle.memories.proofs.Pairs.{passed}
use Rattle.memories.proofs.Same.{same_question}
use Rattle.memories.proofs.SlotsMemory.ask.Goals as goal

pub returns-clause-result : goal.returns-clause-result
returns-clause-result c =
    let q = c.args.q.now in
    let slots = c.args.self.now.slots.now in
    let i : c.in_ok-i.i ≡ question_hash q % length slots = search rules in
    (search rules, ap (λ m. get_or slots m None) (sym i) ∙ passed q _ c.in_ok-remembered.remembered _ (λ y t. same_question y.question q (search rules)) c.in_ok-remembered.ensures)
