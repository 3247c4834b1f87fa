use Rattle.std.proofs.Common.{◌≡◌, true, false, take, ap, ◌∙◌, rules, arith}
use Rattle.std.specs.Option.{is_some}
use Rattle.tables.specs.Places.{made}
use Rattle.walks.specs.Extended.{all_needs}
use Rattle.walks.proofs.Whole.{builds, stays, cut_back, used_grows}
use Rattle.walks.proofs.extend.Goals as goal

pub build-extended-requires : goal.build-extended-requires
build-extended-requires g c = record { begins = c.requires.begins; can = (all_needs c.args.parts c.args.table.now c.args.product c.args.limit.now, builds c.args.product c.args.limit.now c.requires.table) }

pub truncate-requires : goal.truncate-requires
truncate-requires g c =
    let b = c.build-extended.ensures (all_needs c.args.parts c.args.table.now c.args.product c.args.limit.now) (builds c.args.product c.args.limit.now c.requires.table) in
    let more = used_grows c.args.product c.args.limit.now c.requires.table b in
    omega arith

pub returns-then-is_none : goal.returns-then-is_none
returns-then-is_none g c =
    let b = c.build-extended.ensures (all_needs c.args.parts c.args.table.now c.args.product c.args.limit.now) (builds c.args.product c.args.limit.now c.requires.table) in
    let none : is_some c.build-extended.result ≡ false = search rules in
    cut_back c.args.product c.args.limit.now c.requires.table c.truncate.new.self c.build-extended.result none b c.truncate.ensures.places (c.truncate.ensures.done ∙ ap (λ n. take n (made c.build-extended.new.table)) c.used-before.ensures.used)

pub returns-else-is_none : goal.returns-else-is_none
returns-else-is_none g c =
    let b = c.build-extended.ensures (all_needs c.args.parts c.args.table.now c.args.product c.args.limit.now) (builds c.args.product c.args.limit.now c.requires.table) in
    let some : is_some c.build-extended.result ≡ true = search rules in
    stays c.args.product c.args.limit.now c.requires.table c.build-extended.result some b
