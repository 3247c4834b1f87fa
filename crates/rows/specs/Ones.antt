-- The choices at which an edge denotes 1, and edges that denote 0 or 1 everywhere.
use Rattle.std.specs.Prelude.{◌≡◌, ℕ, ◌+◌, Bool, List, length, ℤ, pos, ◌+ℤ◌}
use Rattle.diagrams.specs.Apply.{Bit}
use Rattle.diagrams.specs.Needs.{same, indicator}
use Rattle.diagrams.specs.Nodes.{value}
use Rattle.diagrams.specs.declared.Node.{Node}
use Rattle.diagrams.specs.declared.Child.{Child}
use Rattle.diagrams.specs.declared.Edge.{Edge}
use Rattle.rows.specs.declared.BitEdge.{BitEdge}

-- whether the edge of constant a and child r denotes 1, where the choice is of the parts from i up
abbrev pub ones_of : List Node → ℕ → ℤ → Child → List Bool → Bool
ones_of ns i a r c = same (a +ℤ value ns i r c) (pos 1)

-- the same where the constant is 1 or 0
abbrev pub ones : List Node → ℕ → Bool → Child → List Bool → Bool
ones ns i b r = ones_of ns i (indicator b) r

-- the edge denotes 0 or 1 at each choice of the parts from i up
abbrev pub BitsOf : List Node → ℕ → ℕ → ℤ → Child → Type 0
BitsOf ns parts i a r = (c : List Bool) → i + length c ≡ parts → Bit (a +ℤ value ns i r c)

-- the same where the constant is 1 or 0
abbrev pub Bits : List Node → ℕ → ℕ → Bool → Child → Type 0
Bits ns parts i b r = BitsOf ns parts i (indicator b) r

-- an edge whose constant is 1 or 0, with that as a truth
abbrev pub bit_edge : Edge → BitEdge
bit_edge e = record { one = same e.constant (pos 1); child = e.child }
