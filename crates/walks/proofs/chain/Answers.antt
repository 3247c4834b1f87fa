use Rattle.std.proofs.Common.{◌≡◌, ◌-◌, pos, get_or, sym, ap, subst, rules, arith}
use Rattle.diagrams.specs.Apply.{plus_edge}
use Rattle.diagrams.proofs.Chain.{sums_none}
use Rattle.tables.specs.Places.{made}
use Rattle.walks.specs.Walked.{Summed}
use Rattle.tables.proofs.Tables.{grew_none}
use Rattle.walks.proofs.Sum.{summing_small, summing_makes, summing_next, summing_full}
use Rattle.walks.proofs.Once.{table_of}
use Rattle.walks.proofs.chain.Goals as goal

pub loop-part-init : goal.loop-part-init
loop-part-init c = λ ts table allows. record {
  low = omega arith;
  grew = grew_none c.args.parts ts c.args.table.now table;
  edge = sums_none c.args.parts (made c.args.table.now) c.args.coefficients.now c.constant-e.result (ap (λ z. z.child) c.constant-e.ensures) (ap (λ z. z.constant) c.constant-e.ensures);
}

pub plus-fit-requires : goal.plus-fit-requires
plus-fit-requires c =
    let s = c.loop-part.invariant c.requires.ts c.requires.table c.requires.allows in
    (summing_small s, search (rules, c.requires.small (c.loop-part.part - 1)))

pub make-requires : goal.make-requires
make-requires c =
    let s = c.loop-part.invariant c.requires.ts c.requires.table c.requires.allows in
    let is : c.plus-fit.result ≡ plus_edge c.loop-part.e (get_or c.args.coefficients.now (c.loop-part.part - 1) (pos 0)) = search rules in
    (c.args.parts, c.requires.ts, table_of s.grew, summing_makes s c.loop-part-test.true c.requires.few c.requires.small c.requires.allows c.plus-fit.result is)

pub returns-in_err-e : goal.returns-in_err-e
returns-in_err-e c = λ ts table allows.
    let s = c.loop-part.invariant ts table allows in
    let is : c.plus-fit.result ≡ plus_edge c.loop-part.e (get_or c.args.coefficients.now (c.loop-part.part - 1) (pos 0)) = search rules in
    subst (Summed c.args.parts ts c.args.table.now c.make.new.self c.args.coefficients.now) (sym c.from_residual.ensures)
    (summing_full s c.make.new.self c.plus-fit.result (c.in_err-e.ensures c.args.parts ts (table_of s.grew) (summing_makes s c.loop-part-test.true c.requires.few c.requires.small allows c.plus-fit.result is)))

pub loop-part-preserved : goal.loop-part-preserved
loop-part-preserved c = λ ts table allows.
    let s = c.loop-part.invariant ts table allows in
    let is : c.plus-fit.result ≡ plus_edge c.loop-part.e (get_or c.args.coefficients.now (c.loop-part.part - 1) (pos 0)) = search rules in
    summing_next s c.loop-part-test.true c.requires.few c.make.new.self c.plus-fit.result c.in_ok-e.e is (c.in_ok-e.ensures c.args.parts ts (table_of s.grew) (summing_makes s c.loop-part-test.true c.requires.few c.requires.small allows c.plus-fit.result is))
