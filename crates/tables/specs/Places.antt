-- The nodes that a table has, and how it may change.
use Rattle.std.specs.Prelude.{◌≡◌, ℕ, ◌^◌, ◌<◌, ◌≤◌, Bool, List, length, ℤ, pos, Option, MatchOption, slice_index_or, unsigned_abs}
use Rattle.diagrams.specs.declared.Edge.{Edge}
use Rattle.diagrams.specs.declared.Node.{Node}
use Rattle.diagrams.specs.declared.Child.{Child}
use Rattle.diagrams.specs.declared.Child.TheVariants.{Terminal, Place}
use Rattle.diagrams.specs.Needs.{once}
use Rattle.diagrams.specs.Nodes.{From}
use Rattle.diagrams.specs.Apply.{edge_at, Good, Grown, Makes, Joined}
use Rattle.tables.specs.declared.NodeTable.{NodeTable}
pub use Rattle.tables.specs.Chains.{made, room}

abbrev pub blank : Node
blank = record { part = 0; value = pos 0; left = Terminal; right = Terminal }

-- t' is t with more nodes, of the functions ts only
pub record Grew (parts : ℕ) (ts : List (List ℤ)) (t t' : NodeTable) : Type 0 where
  pub places : room t' ≡ room t
  pub grown : Grown (made t) (made t')
  pub good : Good parts (made t') ts

-- a table with nodes of the functions ts only
abbrev pub Table : ℕ → List (List ℤ) → NodeTable → Type 0
Table parts ts t = Good parts (made t) ts

-- there are more functions than the table may have nodes
abbrev pub TooFew : List (List ℤ) → NodeTable → Type 0
TooFew ts t = room t < length (once ts)

-- the part of a node, and more than any for the terminal
abbrev pub part_at : List Node → Child → ℕ
part_at ns Terminal = 255
part_at ns (Place k) = (slice_index_or ns k blank).part

-- a node of part i may be made of two edges
abbrev pub CanMake : NodeTable → ℕ → Edge → Edge → Type 0
CanMake t i fit out = (parts : ℕ) × (ts : List (List ℤ)) × Table parts ts t × Makes parts (made t) ts i fit out

-- the edge that was made of two edges, or none where there are too few places
pub record Made (parts : ℕ) (ts : List (List ℤ)) (t t' : NodeTable) (i : ℕ) (fit out : Edge) (r : Option Edge) : Type 0 where
  pub grew : Grew parts ts t t'
  pub edge : MatchOption r (TooFew ts t') (λ e. Joined (made t') i fit out e)

-- part i may be settled in e
abbrev pub CanSettle : NodeTable → Edge → ℕ → Type 0
CanSettle t e i = (parts : ℕ) × (ts : List (List ℤ)) × Table parts ts t × From (made t) i e.child × (unsigned_abs e.constant ≤ 2 ^ 28)

-- two edges denote one function of the choices among the parts
abbrev pub OneFunction : ℕ → List Node → Edge → Edge → Type 0
OneFunction parts ns a b = (c : List Bool) → length c ≡ parts → edge_at ns 0 a c ≡ edge_at ns 0 b c
