-- What a row means: the best grades of the later parts at a node. vs are the grades that the parts' weights mean.
use Rattle.std.specs.Prelude.{◌≡◌, ℕ, ◌+◌, ◌<◌, ◌≤◌, Bool, cond, List, length, drop, Some, None, Option, slice_index_or}
use Rattle.std.specs.List.{AllByRecursion, slice_get}
use Rattle.grades.specs.Laws.{Kind}
use Rattle.grades.specs.Rule.{best}
use Rattle.diagrams.specs.Nodes.{here, Under, Ordered}
use Rattle.diagrams.specs.declared.Node.{Node}
use Rattle.diagrams.specs.declared.Child.{Child}
use Rattle.diagrams.specs.declared.Child.TheVariants.{Place}
use Rattle.rows.specs.Ones.{ones, Bits}
use Rattle.rows.specs.declared.Row.{Row}
use Rattle.rows.specs.declared.Top.{Top}

-- the grade that is meant, missing where there is none
abbrev pub mapped : {G V : Type 0} → (G → V) → Option G → Option V
mapped means None = None
mapped means (Some g) = Some (means g)

-- the better of two, the first where they rank alike
abbrev pub better_of : {V G : Type 0} → Kind V → (G → V) → Option G → Option G → Option G
better_of k means None y = y
better_of k means (Some x) None = Some x
better_of k means (Some x) (Some y) = cond (k.no_later (means x) (means y)) (Some x) (Some y)

-- r is w joined with what there is
abbrev pub Put : {V G : Type 0} → Kind V → (G → V) → V → Option G → Option G → Type 0
Put k means w None None = Unit {0}
Put k means w None (Some g) = ⊥
Put k means w (Some b) None = ⊥
Put k means w (Some b) (Some g) = k.size w + k.size (means b) ≤ 48000000 → means g ≡ k.join w (means b)

-- at most 48 weights, each in range
pub record Weighed {V : Type 0} (k : Kind V) (vs : List V) : Type 0 where
  pub few : length vs ≤ 48
  pub small : AllByRecursion (λ v. k.size v ≤ 1000000) vs

-- the weights can be read with the nodes, whose children stand before them
pub record Ready {V : Type 0} (k : Kind V) (vs : List V) (ns : List Node) : Type 0 where
  pub weighed : Weighed k vs
  pub ordered : Ordered (length vs) ns

-- a row with no grade
abbrev pub no_row : {G : Type 0} → Row G
no_row = record { zero = None; one = None }

-- the row's grade for an edge of constant 1 or 0
abbrev pub row_at : {G : Type 0} → Row G → Bool → Option G
row_at row b = cond b row.one row.zero

-- o is the best grade of the parts from i up, over the choices at which the edge of constant b and child r denotes 1
abbrev pub IsBest : {V G : Type 0} → Kind V → (G → V) → List V → List Node → ℕ → Bool → Child → Option G → Type 0
IsBest k means vs ns i b r o = mapped means o ≡ best k (drop i vs) (ones ns i b r)

-- the rows below lim have the best grades, at each node and constant that denote 0 or 1
abbrev pub RightRows : {V G : Type 0} → Kind V → (G → V) → List V → List Node → List (Row G) → ℕ → Type 0
RightRows k means vs ns rows lim =
    (j : ℕ) (n : Node) (b : Bool) → j < lim → slice_get ns j ≡ Some n → Bits ns (length vs) n.part b (Place j) → IsBest k means vs ns n.part b (Place j) (row_at (slice_index_or rows j no_row) b)

-- o is the best grade for an edge, as far as the rows that it leads to are right
abbrev pub Tells : {V G : Type 0} → Kind V → (G → V) → List V → List Node → List (Row G) → ℕ → Bool → Child → Option G → Type 0
Tells k means vs ns rows i b r o =
    (lim : ℕ) → RightRows k means vs ns rows lim → Under ns i lim r → Bits ns (length vs) i b r → IsBest k means vs ns i b r o

-- r is the best grade from a part up, where o is that from a later part up and the diagram skips the parts between
abbrev pub Lifts : {V G : Type 0} → Kind V → (G → V) → List V → ℕ → ℕ → Option G → Option G → Type 0
Lifts k means vs from to o r =
    (ns : List Node) (b : Bool) (s : Child) → ((j : ℕ) → j < from → here ns j s ≡ None) → IsBest k means vs ns from b s o → IsBest k means vs ns to b s r

-- t has the part of the node that an edge leads to, the number of parts at the terminal, and the best grade from that part up
pub record Tops {V G : Type 0} (k : Kind V) (means : G → V) (vs : List V) (ns : List Node) (rows : List (Row G)) (b : Bool) (r : Child) (t : Top G) : Type 0 where
  pub part : t.part ≤ length vs
  pub above : (i lim : ℕ) → Under ns i lim r → i ≤ length vs → i ≤ t.part
  pub skips : (j : ℕ) → j < t.part → here ns j r ≡ None
  pub tells : (lim : ℕ) → RightRows k means vs ns rows lim → Under ns 0 lim r → Bits ns (length vs) t.part b r → IsBest k means vs ns t.part b r t.best

-- r is the best grade at the node n, as far as the rows before it are right
abbrev pub NodeBest : {V G : Type 0} → Kind V → (G → V) → List V → List Node → List (Row G) → Node → Bool → Option G → Type 0
NodeBest k means vs ns rows n b r =
    (j : ℕ) → slice_get ns j ≡ Some n → RightRows k means vs ns rows j → Bits ns (length vs) n.part b (Place j) → IsBest k means vs ns n.part b (Place j) r

-- the row has the best grades at the node that stands at the place j
abbrev pub RowBest : {V G : Type 0} → Kind V → (G → V) → List V → List Node → List (Row G) → ℕ → Row G → Type 0
RowBest k means vs ns rows j row =
    (n : Node) (b : Bool) → slice_get ns j ≡ Some n → NodeBest k means vs ns rows n b (row_at row b)
