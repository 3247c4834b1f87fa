-- Products of an edge with itself.
use Rattle.std.specs.Prelude.{◌≡◌}
use Rattle.diagrams.specs.declared.Edge.{Edge}
use Rattle.diagrams.specs.declared.Operation.TheVariants.{Times}
use Rattle.diagrams.specs.declared.Question.{Question}

-- q asks for the product of e with itself, which is e where its values are 0 and 1
pub record Squares (q : Question) (e : Edge) : Type 0 where
  pub times : q.operation ≡ Times
  pub same : q.left ≡ q.right
  pub is : e ≡ q.left
