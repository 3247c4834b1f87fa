-- Edge-valued diagrams: nodes in their places, what a node denotes, and a sound table.
use Rattle.std.specs.Prelude.{◌≡◌, ℕ, suc, ◌<◌, ◌≤◌, Bool, cond, List, [], ◌∷◌, length, ℤ, pos, ◌+ℤ◌, Some, None, Option, ◌==◌, ◌≢◌}
use Rattle.std.specs.List.{slice_get}
use Rattle.diagrams.specs.declared.Child.{Child}
use Rattle.diagrams.specs.declared.Child.TheVariants.{Terminal, Place}
use Rattle.diagrams.specs.declared.Node.{Node}

-- n, if its part is i
abbrev pub if_part : ℕ → Option Node → Option Node
if_part i None = None
if_part i (Some n) = cond (n.part == i) (Some n) None

-- the node of part i at r
abbrev pub here : List Node → ℕ → Child → Option Node
here ns i Terminal = None
here ns i (Place k) = if_part i (slice_get ns k)

-- x(v + l) + (1 − x)r at a node, and r itself where the part is skipped
abbrev pub turn : Option Node → Child → (Child → ℤ) → Bool → ℤ
turn None r f x = f r
turn (Some n) r f x = cond x (n.value +ℤ f n.left) (f n.right)

-- what r denotes, where the choice is of the parts from i up
abbrev pub value : List Node → ℕ → Child → List Bool → ℤ
value ns i r [] = pos 0
value ns i r (x ∷ c) = turn (here ns i r) r (λ s. value ns (suc i) s c) x

-- r is the Terminal or a node in the table whose part is at least i
abbrev pub From : List Node → ℕ → Child → Type 0
From ns i Terminal = Unit {0}
From ns i (Place k) = (n : Node) × (slice_get ns k ≡ Some n) × (i ≤ n.part)

-- each part is below the number of parts, children have higher parts, no node has equal children and value 0, and no two are equal
pub record Sound (parts : ℕ) (ns : List Node) : Type 0 where
  pub below : (k : ℕ) (n : Node) → slice_get ns k ≡ Some n → n.part < parts
  pub left_higher : (k : ℕ) (n : Node) → slice_get ns k ≡ Some n → From ns (suc n.part) n.left
  pub right_higher : (k : ℕ) (n : Node) → slice_get ns k ≡ Some n → From ns (suc n.part) n.right
  pub reduced : (k : ℕ) (n : Node) → slice_get ns k ≡ Some n → n.left ≡ n.right → n.value ≢ pos 0
  pub unique : (j k : ℕ) (n : Node) → slice_get ns j ≡ Some n → slice_get ns k ≡ Some n → j ≡ k

-- r is the terminal, or a node at a place below lim whose part is at least i
abbrev pub Under : List Node → ℕ → ℕ → Child → Type 0
Under ns i lim Terminal = Unit {0}
Under ns i lim (Place k) = (n : Node) × (slice_get ns k ≡ Some n) × (i ≤ n.part) × (k < lim)

-- children stand before their parents and have higher parts
pub record Ordered (parts : ℕ) (ns : List Node) : Type 0 where
  pub below : (k : ℕ) (n : Node) → slice_get ns k ≡ Some n → n.part < parts
  pub left : (k : ℕ) (n : Node) → slice_get ns k ≡ Some n → Under ns (suc n.part) k n.left
  pub right : (k : ℕ) (n : Node) → slice_get ns k ≡ Some n → Under ns (suc n.part) k n.right

-- two edges that denote one function are one edge
abbrev pub Canonical : Type 0
Canonical =
    (parts : ℕ) (ns : List Node)
    → Sound parts ns
    → (a b : ℤ) (r s : Child)
    → From ns 0 r
    → From ns 0 s
    → ((c : List Bool) → length c ≡ parts → a +ℤ value ns 0 r c ≡ b +ℤ value ns 0 s c)
    → (a ≡ b) × (r ≡ s)
