-- Comparisons that the ranges of the sum decide on the walk.
use Rattle.std.specs.Prelude.{◌≡◌, ℕ, ◌^◌, ◌<◌, ◌≤◌, List, length, get_or, ℤ, slice_index_or, unsigned_abs}
use Rattle.diagrams.specs.declared.Child.TheVariants.{Place}
use Rattle.diagrams.specs.declared.Edge.{Edge}
use Rattle.diagrams.specs.declared.Question.{Question}
use Rattle.diagrams.specs.declared.Node.{Node}
use Rattle.diagrams.specs.Nodes.{From}
use Rattle.diagrams.specs.Apply.{Tail, Decides}
use Rattle.questions.specs.declared.Range.{Range}
use Rattle.questions.specs.Ranges.{no_range, RangesAre, CanRange, SmallRange}
use Rattle.tables.specs.declared.NodeTable.{NodeTable}
use Rattle.tables.specs.Places.{made, Table, part_at}

-- the ranges are of a sum, and a comparison compares it
pub record Ranged (parts : ℕ) (ns : List Node) (rs : List Range) (root : Question) : Type 0 where
  pub ws : List ℤ
  pub can : CanRange parts ws
  pub room : length rs ≡ 49
  pub each : RangesAre parts ws 0 rs
  pub tail : Tail parts ns ws 0 root

-- the ranges may be asked about q
pub record CanLook (t : NodeTable) (rs : List Range) (q : Question) : Type 0 where
  pub parts : ℕ
  pub ts : List (List ℤ)
  pub table : Table parts ts t
  pub from : From (made t) 0 q.left.child
  pub small : unsigned_abs q.left.constant ≤ 2 ^ 28
  pub room : parts < length rs
  pub small_ranges : (i : ℕ) → i ≤ parts → SmallRange (slice_index_or rs i no_range)

-- the range of the left edge's node decides q
pub record ByRange (t : NodeTable) (rs : List Range) (q : Question) (e : Edge) : Type 0 where
  pub k : ℕ
  pub place : q.left.child ≡ Place k
  pub decides : Decides q (get_or rs (part_at (made t) q.left.child) no_range).low (get_or rs (part_at (made t) q.left.child) no_range).high e
