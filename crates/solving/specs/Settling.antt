-- Reading a choice off the rows, part by part, and what a solve answers. vs are the grades that the parts' weights mean.
use Rattle.std.specs.Prelude.{◌≡◌, ℕ, suc, ◌+◌, ◌<◌, ◌≤◌, Bool, List, ◌∷◌, length, drop, ◌+ℤ◌, Some, None, Option}
use Rattle.limits.specs.Choices.{word}
use Rattle.grades.specs.Laws.{Kind}
use Rattle.grades.specs.Rule.{grade, chosen, answer}
use Rattle.diagrams.specs.Needs.{indicator}
use Rattle.diagrams.specs.Nodes.{value, Under, Ordered}
use Rattle.diagrams.specs.declared.Node.{Node}
use Rattle.diagrams.specs.declared.Child.{Child}
use Rattle.rows.specs.Ones.{ones, Bits}
use Rattle.rows.specs.Bests.{Ready, RightRows}
use Rattle.rows.specs.declared.Row.{Row}
use Rattle.solving.specs.declared.Answer.{Answer}
use Rattle.solving.specs.declared.Settled.{Settled}

-- a solve answers nothing exactly where the rule does, else the rule's choice as a word, with its grade
abbrev pub Solved : {V G : Type 0} → Kind V → (G → V) → List V → (List Bool → Bool) → Option (Answer G) → Type 0
Solved k means vs passes None = answer k vs passes ≡ None
Solved k means vs passes (Some a) =
    (c : List Bool) × (answer k vs passes ≡ Some c) × (a.choice.0 ≡ word c) × (means a.grade ≡ grade k vs c)

-- there is a row for each node, and it has the best grades
pub record Filled {V G : Type 0} (k : Kind V) (means : G → V) (vs : List V) (ns : List Node) (rows : List (Row G)) : Type 0 where
  pub ready : Ready k vs ns
  pub enough : length ns ≤ length rows
  pub right : RightRows k means vs ns rows (length ns)

-- the edge of constant b and child r stands at part i, and denotes 0 or 1
pub record StandsAt (ns : List Node) (parts i : ℕ) (b : Bool) (r : Child) : Type 0 where
  pub under : Under ns i (length ns) r
  pub bits : Bits ns parts i b r

-- the edge of constant b and child r goes on to that of constant s and child q, where part i is fitted or left out
pub record Turns (ns : List Node) (i : ℕ) (b : Bool) (r : Child) (fitted : Bool) (s : Bool) (q : Child) : Type 0 where
  pub under : (parts lim : ℕ) → Ordered parts ns → Under ns i lim r → Under ns (suc i) lim q
  pub follows : (parts : ℕ) → i < parts → Bits ns parts i b r → (c : List Bool) → indicator b +ℤ value ns i r (fitted ∷ c) ≡ indicator s +ℤ value ns (suc i) q c

-- part i is settled as the rule says, and the edge goes on to part i + 1
pub record Settles {V : Type 0} (k : Kind V) (vs : List V) (ns : List Node) (i : ℕ) (b : Bool) (r : Child) (s : Settled) : Type 0 where
  pub chosen_is : chosen k (drop i vs) (ones ns i b r) ≡ s.fitted ∷ chosen k (drop (i + 1) vs) (ones ns (i + 1) s.next.one s.next.child)
  pub stands : StandsAt ns (length vs) (i + 1) s.next.one s.next.child
