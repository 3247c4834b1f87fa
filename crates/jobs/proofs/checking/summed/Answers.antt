use Rattle.std.proofs.Common.{◌≤◌, length, take, ◌∙◌, arith}
use Rattle.jobs.proofs.Sums.{again, finished, sum_is, sum_small, sum_taken}
use Rattle.jobs.proofs.checking.summed.Goals as goal

pub loop-coefficient-preserved : goal.loop-coefficient-preserved
loop-coefficient-preserved c =
    let items = take c.args.parts c.args.limit.now.coefficients in
    let few : length items ≤ 48 = omega arith in
    let low = rw c.loop-coefficient.total-is at c.loop-coefficient.invariant.1 in
    let is = sum_is c.loop-coefficient.coefficient-index (length items) _ c.loop-coefficient.total c.taken-total.result c.loop-coefficient.total-is low c.taken-total.ensures.small c.loop-coefficient-test.true few in (
      rw is (again items (length items) c.loop-coefficient.coefficient-index c.loop-coefficient.rest c.loop-coefficient.total c.taken-total.result _ c.loop-coefficient-test.true (rw c.loop-coefficient.total-is at c.loop-coefficient.invariant.0) c.taken-total.ensures.is),
      sum_small c.loop-coefficient.coefficient-index (length items) _ c.loop-coefficient.total c.taken-total.result c.loop-coefficient.total-is low c.taken-total.ensures.small c.loop-coefficient-test.true few,
    )

pub returns : goal.returns
returns c =
    let items = take c.args.parts c.args.limit.now.coefficients in
    let long : c.args.parts ≤ length c.args.limit.now.coefficients = omega arith in
    c.loop-coefficient.total-is
    ∙ (finished items (length items) c.loop-coefficient.coefficient-index c.loop-coefficient.rest c.loop-coefficient.total _ c.loop-coefficient-test.false (rw c.loop-coefficient.total-is at c.loop-coefficient.invariant.0)
    ∙ sum_taken c.args.limit.now.coefficients c.args.parts c.args.choice.0 long)
