use Rattle.std.proofs.Common.{List, ℤ, reverse}
use Rattle.diagrams.specs.Apply.{AllRight, Asked}
use Rattle.tables.specs.Places.{made, Table}
use Rattle.walks.proofs.Paths.{Walking, left_to_do}
use Rattle.walks.proofs.walk.Given as goal

abbrev pub invariant-loop-answer : goal.invariant-loop-answer
invariant-loop-answer g l = record {
  right : AllRight g.M.Memory.holds l.memory l.parts (made l.table);
  walking : (ts : List (List ℤ)) → Table l.parts ts l.initial.table → Asked l.parts (made l.initial.table) ts 0 l.initial.q → Walking l.parts ts l.initial.table l.table l.initial.q (reverse l.stack.items) l.q l.answer;
}

abbrev pub decreases-loop-answer : goal.decreases-loop-answer
decreases-loop-answer g l = left_to_do l.parts (reverse l.stack.items) l.answer
