use Rattle.std.proofs.Common.{◌≡◌, suc, ◌-◌, ◌<◌, length, ap, ◌∙◌, arith}
use Rattle.jobs.specs.Books.{product_of, blank}
use Rattle.jobs.specs.declared.ledger.Record.{Record}
use Rattle.std.proofs.lemmas.List.{get_or_default}
use Rattle.jobs.proofs.ledger.Ledger.product.Goals as goal

pub returns-else-self-eq0 : goal.returns-else-self-eq0
returns-else-self-eq0 c =
    let e : suc (c.args.self.now.count - 1) ≡ c.args.self.now.count = omega (arith, c.if-self-eq0.false) in
    let h : c.args.self.now.count - 1 < length c.args.self.now.records = omega (arith, c.if-self-eq0.false) in
    ap (λ (r : Record). r.product) (get_or_default c.args.self.now.records (c.args.self.now.count - 1) _ blank h) ∙ ap (product_of c.args.self.now.records) e
