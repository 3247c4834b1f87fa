use Rattle.std.proofs.Common.{◌≡◌, rules}
use Rattle.questions.specs.Comparisons.{compared}
use Rattle.questions.proofs.Constants.{constants, products}
use Rattle.questions.proofs.shortcut.Goals as goal

pub returns-in-Times-default-default : goal.returns-in-Times-default-default
returns-in-Times-default-default c = products c.args.q c.times_known.result c.or_else.result _ c.in-Times-default-default.is-0 c.times_known.ensures c.or_else.ensures (λ k. search rules)

pub returns-in_default-Terminal-Terminal : goal.returns-in_default-Terminal-Terminal
returns-in_default-Terminal-Terminal c =
    let q = c.args.q in
    let is : c.compared.result ≡ compared q.operation q.left.constant q.right.constant = search rules in
    constants q c.compared.result c.map.result c.in_default-Terminal-Terminal.is-1 c.in_default-Terminal-Terminal.is-2 c.in_default-Terminal-Terminal.not-Times-0 is (search rules)
