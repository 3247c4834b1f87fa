-- A node table that holds one node for each needed function and no other.
use Rattle.std.specs.Prelude.{◌≡◌, ℕ, suc, ◌-◌, ◌⊎◌, List, [], ◌∷◌, length, ℤ, pos, Some}
use Rattle.std.specs.List.{slice_get}
use Rattle.limits.specs.declared.Limit.{Limit}
use Rattle.diagrams.specs.Needs.{table, needed_all, built, needs}
use Rattle.diagrams.specs.declared.Child.TheVariants.{Place}
use Rattle.diagrams.specs.declared.Node.{Node}
use Rattle.diagrams.specs.Nodes.{value, Sound}

-- x is an element of the list
abbrev pub In : {A : Type 0} → A → List A → Type 0
In x [] = ⊥
In x (y ∷ ys) = (x ≡ y) ⊎ In x ys

-- the function of the node n at Place k, as a table over the parts from n's up
abbrev pub node_table : ℕ → List Node → ℕ → Node → List ℤ
node_table parts ns k n = table (parts - n.part) (value ns n.part (Place k))

-- the functions of the nodes from Place k up, which rest lists
abbrev pub tables_from : ℕ → List Node → ℕ → List Node → List (List ℤ)
tables_from parts ns k [] = []
tables_from parts ns k (n ∷ rest) = node_table parts ns k n ∷ tables_from parts ns (suc k) rest

-- the nodes are one for each function that the limits need, and no other
pub record Holds (parts : ℕ) (ns : List Node) (ls : List Limit) : Type 0 where
  pub sound : Sound parts ns
  pub no_other : (k : ℕ) (n : Node) → slice_get ns k ≡ Some n → In (node_table parts ns k n) (needed_all parts (built ls (λ c. pos 1)))
  pub each : (t : List ℤ) → In t (needed_all parts (built ls (λ c. pos 1))) → (k : ℕ) × (n : Node) × (slice_get ns k ≡ Some n) × (t ≡ node_table parts ns k n)

-- such a table has as many nodes as the limits need
abbrev pub HeldCount : Type 0
HeldCount = (parts : ℕ) (ns : List Node) (ls : List Limit) → Holds parts ns ls → length ns ≡ needs parts ls
