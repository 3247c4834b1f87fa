use Rattle.std.proofs.Common.{◌-◌, ◌<◌, length, refl, ap, arith}
use Rattle.jobs.specs.Books.{blank}
use Rattle.jobs.specs.declared.ledger.Record.{Record}
use Rattle.std.proofs.lemmas.List.{get_or_default}
use Rattle.jobs.proofs.ledger.Ledger.drop_last.Goals as goal

pub returns : goal.returns
returns c =
    let h : c.args.self.now.count - 1 < length c.args.self.now.records = omega arith in
    record { count = omega arith; records = refl; mark = ap (λ (r : Record). r.mark) (get_or_default c.args.self.now.records (c.args.self.now.count - 1) _ blank h) }
