use Rattle.std.proofs.Common.{rules}
use Rattle.records.proofs.Shown.{limit_read}
use Rattle.records.proofs.payloads.limit.Goals as goal

pub returns : goal.returns
returns c =
    let b = c.in_ok-bound.ensures in
    let t = c.in_ok-all_terms.ensures in
    let z = limit_read c.args.sense c.args.payload c.signed.new.self c.in_ok-bound.bound t.0 c.rest.result.now b.3 b.4 b.2 b.0 t.1 c.rest.ensures in
    search rules
