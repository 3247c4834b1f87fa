-- The question of a limit.
use Rattle.limits.specs.declared.Limit.{Limit}
use Rattle.diagrams.specs.declared.Child.TheVariants.{Terminal}
use Rattle.diagrams.specs.declared.Edge.{Edge}
use Rattle.diagrams.specs.declared.Question.{Question}
use Rattle.diagrams.specs.Apply.{operation_of, question}

-- the edge of the bound
abbrev pub bound_edge : Limit → Edge
bound_edge l = record { constant = l.bound; child = Terminal }

-- whether the edge e keeps the limit
abbrev pub kept_question : Limit → Edge → Question
kept_question l e = question (operation_of l.sense) e (bound_edge l)
