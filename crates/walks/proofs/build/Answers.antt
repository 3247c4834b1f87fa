use Rattle.std.proofs.Common.{sym, subst, rules}
use Rattle.tables.specs.Places.{made}
use Rattle.walks.specs.Extended.{Built}
use Rattle.walks.proofs.Once.{table_of, grew_on}
use Rattle.walks.proofs.Three.{kept_ranged, kept_asked, last_asked, last_built}
use Rattle.walks.proofs.build.Goals as goal

pub returns-in_err-sum : goal.returns-in_err-sum
returns-in_err-sum g c = λ ts m.
    let d = c.in_err-sum.ensures ts m.table m.sums in
    subst (Built c.args.parts ts c.args.table.now c.chain.new.table c.args.product c.args.limit.now) (sym c.from_residual.ensures) (record { grew = d.grew; edge = d.edge })

pub walk-requires-clause-can : goal.walk-requires-clause-can
walk-requires-clause-can g c =
    let m = c.requires.can.1 in
    let d = c.in_ok-sum.ensures c.requires.can.0 m.table m.sums in
    (c.requires.can.0, table_of d.grew, kept_asked c.requires.begins m d.grew d.edge c.within_bound.ensures)

pub walk-requires-clause-ranged : goal.walk-requires-clause-ranged
walk-requires-clause-ranged g c =
    let m = c.requires.can.1 in
    let d = c.in_ok-sum.ensures c.requires.can.0 m.table m.sums in
    kept_ranged c.requires.begins c.ranges_of-ranges.result (search rules) (search rules) c.ranges_of-ranges.ensures (made c.chain.new.table) c.in_ok-sum.sum d.edge c.within_bound.result c.within_bound.ensures

pub returns-in_err-kept : goal.returns-in_err-kept
returns-in_err-kept g c = λ ts m.
    let d = c.in_ok-sum.ensures ts m.table m.sums in
    let k = c.in_err-kept.ensures.done ts (table_of d.grew) (kept_asked c.requires.begins m d.grew d.edge c.within_bound.ensures) in
    subst (Built c.args.parts ts c.args.table.now c.walk.new.table c.args.product c.args.limit.now) (sym c.from_residual-in_err-kept.ensures) (record { grew = grew_on d.grew k.grew; edge = k.answer })

pub walk-requires-2-clause-can : goal.walk-requires-2-clause-can
walk-requires-2-clause-can g c =
    let m = c.requires.can.1 in
    let d = c.in_ok-sum.ensures c.requires.can.0 m.table m.sums in
    let k = c.in_ok-kept.ensures.done c.requires.can.0 (table_of d.grew) (kept_asked c.requires.begins m d.grew d.edge c.within_bound.ensures) in
    (c.requires.can.0, table_of k.grew, last_asked c.requires.begins m d.grew k.grew d.edge c.within_bound.ensures k.answer)

pub returns : goal.returns
returns g c = λ ts m.
    let d = c.in_ok-sum.ensures ts m.table m.sums in
    let k = c.in_ok-kept.ensures.done ts (table_of d.grew) (kept_asked c.requires.begins m d.grew d.edge c.within_bound.ensures) in
    last_built c.requires.begins m d.grew k.grew d.edge c.within_bound.ensures k.answer c.walk-2.result
    (c.walk-2.ensures.done ts (table_of k.grew) (last_asked c.requires.begins m d.grew k.grew d.edge c.within_bound.ensures k.answer))
