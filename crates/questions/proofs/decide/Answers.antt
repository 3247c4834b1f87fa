use Rattle.std.proofs.Common.{◌≡◌, ◌+ℤ◌, Some, IfSome, sym, subst, rules}
use Rattle.diagrams.specs.Apply.{Decides}
use Rattle.questions.specs.Comparisons.{compared}
use Rattle.questions.proofs.Ranged.{decided}
use Rattle.questions.proofs.decide.Goals as goal

pub returns : goal.returns
returns c =
    let q = c.args.q in
    let g = c.args.g in
    let low : compared q.operation (q.left.constant +ℤ g.low) q.right.constant ≡ Some c.in_ok-low.low = search rules in
    let high : compared q.operation (q.left.constant +ℤ g.high) q.right.constant ≡ Some c.in_ok-high.high = search rules in
    subst (λ r. IfSome r (λ f. Decides q g.low g.high f)) (sym c.then_some.ensures) (decided q g c.in_ok-low.low c.in_ok-high.high c.constant.result (search rules) low high c.constant.ensures)
