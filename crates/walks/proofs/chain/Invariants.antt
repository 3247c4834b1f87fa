use Rattle.std.proofs.Common.{List, ℤ}
use Rattle.limits.specs.Limits.{sum}
use Rattle.diagrams.specs.Apply.{Allows}
use Rattle.tables.specs.Places.{Table}
use Rattle.walks.proofs.Paths.{Summing}
use Rattle.walks.proofs.chain.Given as goal

abbrev pub invariant-loop-part : goal.invariant-loop-part
invariant-loop-part l = (ts : List (List ℤ)) → Table l.parts ts l.initial.table → Allows ts l.parts (sum l.coefficients) → Summing l.parts ts l.initial.table l.table l.coefficients l.part l.e
