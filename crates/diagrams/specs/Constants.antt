-- The constant that goes with a node.
use Rattle.std.specs.Prelude.{◌≡◌, ℕ, ◌+◌, ◌≤◌, Bool, ◌⊎◌, List, length, ℤ, ◌+ℤ◌}
use Rattle.diagrams.specs.declared.Child.{Child}
use Rattle.diagrams.specs.declared.Child.TheVariants.{Terminal}
use Rattle.diagrams.specs.declared.Node.{Node}
use Rattle.diagrams.specs.Nodes.{value, From, Sound}
use Rattle.diagrams.specs.Apply.{Bit}

-- the edge of constant a and child r denotes 0 or 1 at each choice of the parts from i up
abbrev pub DenotesBits : ℕ → List Node → ℕ → ℤ → Child → Type 0
DenotesBits parts ns i a r = (c : List Bool) → i + length c ≡ parts → Bit (a +ℤ value ns i r c)

-- two edges to one child that both denote 0 or 1 at every choice have one constant, unless the child is the terminal
abbrev pub OneConstant : Type 0
OneConstant =
    (parts : ℕ) (ns : List Node)
    → Sound parts ns
    → (i : ℕ) (a b : ℤ) (r : Child)
    → i ≤ parts
    → From ns i r
    → DenotesBits parts ns i a r
    → DenotesBits parts ns i b r
    → (a ≡ b) ⊎ (r ≡ Terminal)
