use Rattle.std.proofs.Common.{◌≤◌, nat_abs, arith, w32, to_z, of_z, rules}
use Rattle.std.proofs.lemmas.Int.{ints}
use Rattle.limits.proofs.Coefficients.{set_small}
use Rattle.limits.proofs.drafts.Draft.term.Goals as goal

pub invariant_of-self : goal.invariant_of-self
invariant_of-self c =
    let small : nat_abs (to_z w32 (of_z w32 c.args.term.coefficient)) ≤ 1000000 = omega (arith, ints) in
    record { whole = search rules; small = set_small c.args.self.now.coefficients c.args.term.part 1000000 _ small c.args.self.now.small }
