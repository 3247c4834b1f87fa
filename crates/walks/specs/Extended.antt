-- A limit more: what is built for it, and what the table holds then.
use Rattle.std.specs.Prelude.{◌≡◌, ℕ, ◌^◌, ◌<◌, ◌≤◌, Bool, List, ◌++◌, length, ℤ, pos, ◌*ℤ◌, Some, Option, MatchOption, slice_index_or, unsigned_abs}
use Rattle.std.specs.List.{slice_get}
use Rattle.diagrams.specs.declared.Edge.{Edge}
use Rattle.diagrams.specs.declared.Node.{Node}
use Rattle.limits.specs.Limits.{sum, keeps}
use Rattle.diagrams.specs.Needs.{needed, once, indicator}
use Rattle.diagrams.specs.Nodes.{From, Sound, Ordered}
use Rattle.diagrams.specs.Held.{In, node_table}
pub use Rattle.diagrams.specs.Held.{tables_from}
use Rattle.diagrams.specs.Apply.{edge_at, Bit, Grown, Allows}
use Rattle.tables.specs.declared.NodeTable.{NodeTable}
use Rattle.limits.specs.declared.Limit.{Limit}
use Rattle.tables.specs.Places.{made, room, Grew, Table, TooFew}

-- 1 where the limit is kept, 0 elsewhere
abbrev pub kept : Limit → List Bool → ℤ
kept l c = indicator (keeps l c)

-- the product with one limit more
abbrev pub times : NodeTable → Edge → Limit → List Bool → ℤ
times t product l c = edge_at (made t) 0 product c *ℤ kept l c

-- the product, 0 or 1 everywhere, stands in the table, and the limit's numbers are in their ranges
pub record Begins (parts : ℕ) (t : NodeTable) (product : Edge) (l : Limit) : Type 0 where
  pub few : parts ≤ 48
  pub product_in : From (made t) 0 product.child
  pub product_bit : (c : List Bool) → length c ≡ parts → Bit (edge_at (made t) 0 product c)
  pub coefficients : (i : ℕ) → unsigned_abs (slice_index_or l.coefficients i (pos 0)) ≤ 1000000
  pub bound : unsigned_abs l.bound ≤ 100000000

-- nodes may be made for the limit's three functions
pub record Builds (parts : ℕ) (ts : List (List ℤ)) (t : NodeTable) (product : Edge) (l : Limit) : Type 0 where
  pub table : Table parts ts t
  pub sums : Allows ts parts (sum l.coefficients)
  pub keeps : Allows ts parts (kept l)
  pub products : Allows ts parts (times t product l)

-- nodes may be made, of some functions
abbrev pub CanBuild : ℕ → NodeTable → Edge → Limit → Type 0
CanBuild parts t product l = (ts : List (List ℤ)) × Builds parts ts t product l

-- what the limit needs: its sum, its test and the product
abbrev pub limit_needs : ℕ → NodeTable → Edge → Limit → List (List ℤ)
limit_needs parts t product l = needed parts (sum l.coefficients) ++ (needed parts (kept l) ++ needed parts (times t product l))

-- the functions of the old nodes, and what the limit needs
abbrev pub all_needs : ℕ → NodeTable → Edge → Limit → List (List ℤ)
all_needs parts t product l = tables_from parts (made t) 0 (made t) ++ limit_needs parts t product l

-- a node has the function u
abbrev pub HasNode : ℕ → List Node → List ℤ → Type 0
HasNode parts ns u = (k : ℕ) × (n : Node) × (slice_get ns k ≡ Some n) × (u ≡ node_table parts ns k n)

-- the edge e denotes the product with one limit more
pub record Denotes (parts : ℕ) (t t' : NodeTable) (product : Edge) (l : Limit) (e : Edge) : Type 0 where
  pub from : From (made t') 0 e.child
  pub equal : (c : List Bool) → length c ≡ parts → edge_at (made t') 0 e c ≡ times t product l c
  -- each needed function has a node
  pub each : (u : List ℤ) → In u (limit_needs parts t product l) → HasNode parts (made t') u

-- the table grew, and has the product or too few places
pub record Built (parts : ℕ) (ts : List (List ℤ)) (t t' : NodeTable) (product : Edge) (l : Limit) (r : Option Edge) : Type 0 where
  pub grew : Grew parts ts t t'
  pub edge : MatchOption r (TooFew ts t') (λ e. Denotes parts t t' product l e)

-- a sound table, of small values
pub record SoundTable (parts : ℕ) (t : NodeTable) : Type 0 where
  pub sound : Sound parts (made t)
  pub ordered : Ordered parts (made t)
  pub small : (k : ℕ) (n : Node) → slice_get (made t) k ≡ Some n → unsigned_abs n.value ≤ 2 ^ 29

-- the table holds the old nodes and what the limit needs, and no other
pub record Extended (parts : ℕ) (t t' : NodeTable) (product : Edge) (l : Limit) (e : Edge) : Type 0 where
  pub table : SoundTable parts t'
  pub places : room t' ≡ room t
  pub grown : Grown (made t) (made t')
  pub denotes : Denotes parts t t' product l e
  -- each new node is of a needed function
  pub needed_only : (k : ℕ) (n : Node) → slice_get (made t') k ≡ Some n → length (made t) ≤ k → In (node_table parts (made t') k n) (limit_needs parts t product l)
  -- one for each function of the old nodes and each needed one
  pub count : t'.used ≡ length (once (all_needs parts t product l))

-- the nodes are as they were, and more are needed than there are places
pub record Refused (parts : ℕ) (t t' : NodeTable) (product : Edge) (l : Limit) : Type 0 where
  pub places : room t' ≡ room t
  pub same : made t' ≡ made t
  pub more_needed : room t < length (once (all_needs parts t product l))
