-- Comparisons of two numbers.
use Rattle.std.specs.Prelude.{Bool, ℤ, Some, None, Option, int_le}
use Rattle.diagrams.specs.declared.Operation.{Operation}
use Rattle.diagrams.specs.declared.Operation.TheVariants.{AtMost, AtLeast, Times}

-- whether a comparison holds of two numbers; a product compares none
abbrev pub compared : Operation → ℤ → ℤ → Option Bool
compared AtMost a b = Some (int_le a b)
compared AtLeast a b = Some (int_le b a)
compared Times a b = None
