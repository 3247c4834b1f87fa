-- Two questions that the derived comparison finds equal are one.
use Rattle.std.proofs.Common.{rules, ◌≡◌, true, ◌&&◌}
use Rattle.std.proofs.lemmas.Bool.{and_parts}
use Rattle.diagrams.specs.declared.Question.{Question}
use Rattle.diagrams.specs.declared.Edge.{Edge}
use Rattle.diagrams.specs.declared.Operation.{Operation}
use Rattle.diagrams.specs.contracts.EdgePartialEq.TheImpl as edges
use Rattle.diagrams.specs.contracts.OperationPartialEq.TheImpl as operations
use Rattle.diagrams.specs.contracts.QuestionPartialEq.TheImpl as questions

same_edge : (x y : Edge) → edges.ghosts.eq x y ≡ true → x ≡ y
same_edge x y h = search rules

same_operation : (x y : Operation) → operations.ghosts.eq x y ≡ true → x ≡ y
same_operation x y h = search rules

pub same_question : (x y : Question) → questions.ghosts.eq x y ≡ true → x ≡ y
same_question x y h =
    let first = and_parts (operations.ghosts.eq x.operation y.operation) (edges.ghosts.eq x.left y.left && edges.ghosts.eq x.right y.right) h in
    let later = and_parts (edges.ghosts.eq x.left y.left) (edges.ghosts.eq x.right y.right) first.1 in
    let operation = same_operation x.operation y.operation first.0 in
    let left = same_edge x.left y.left later.0 in
    let right = same_edge x.right y.right later.1 in
    λ i. record { operation = operation i; left = left i; right = right i }
