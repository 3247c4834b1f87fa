-- Places, their buckets and the chains of each bucket.
use Rattle.std.specs.Prelude.{◌≡◌, ℕ, ◌+◌, ◌-◌, ◌*◌, ◌%◌, ◌<◌, ◌≤◌, min, List, map, length, pos, slice_index_or, slice_set, unsigned_abs}
use Rattle.diagrams.specs.declared.Child.TheVariants.{Terminal}
use Rattle.diagrams.specs.declared.Node.{Node}
pub use Rattle.diagrams.specs.Apply.{child_number}
use Rattle.tables.specs.declared.Place.{Place}

-- a place that holds nothing yet
abbrev pub none : Place
none = record { node = record { part = 0; value = pos 0; left = Terminal; right = Terminal }; next = 0; head = 0 }

-- the bucket of a node among m
unfoldable pub hashed : ℕ → Node → ℕ
hashed m n = (child_number n.left * 97787311 + child_number n.right * 161800127 + unsigned_abs n.value * 57721583 + n.part) % m

abbrev pub node_at : List Place → ℕ → Node
node_at xs k = (slice_index_or xs k none).node

abbrev pub next_at : List Place → ℕ → ℕ
next_at xs k = (slice_index_or xs k none).next

abbrev pub head_at : List Place → ℕ → ℕ
head_at xs k = (slice_index_or xs k none).head

abbrev pub nodes_of : List Place → List Node
nodes_of xs = map (λ p. p.node) xs

-- a node with its link put into the place i
abbrev pub with_node : List Place → ℕ → Node → ℕ → List Place
with_node xs i n next = slice_set xs i (record { node = n; next = next; head = (slice_index_or xs i none).head })

-- the last node of the bucket h set
abbrev pub with_head : List Place → ℕ → ℕ → List Place
with_head xs h head = slice_set xs h (record { node = (slice_index_or xs h none).node; next = (slice_index_or xs h none).next; head = head })

-- a link is one more than a place, or 0 for none. H are the heads of m buckets, N the buckets of the first len places and X their links
pub record Chains (m len : ℕ) (H N X : ℕ → ℕ) : Type 0 where
  pub low : (g : ℕ) → g < m → H g ≤ len
  pub hit : (g : ℕ) → g < m → 0 < H g → N (H g - 1) ≡ g
  pub last : (k : ℕ) → k < len → k < H (N k)
  pub nlow : (k : ℕ) → k < len → X k ≤ k
  pub nhit : (k : ℕ) → k < len → 0 < X k → N (X k - 1) ≡ N k
  pub nlast : (j k : ℕ) → k < len → (j < k) × (N j ≡ N k) → j < X k

abbrev pub Chained : List Place → ℕ → Type 0
Chained xs len = Chains (length xs) len (head_at xs) (λ k. hashed (length xs) (node_at xs k)) (next_at xs)

-- the first used places are no more than the 60000 that count, and the chains of the buckets go through all of them
pub record PlacesFit (xs : List Place) (used : ℕ) : Type 0 where
  pub low : used ≤ min (length xs) 60000
  pub chained : Chained xs used

-- all buckets are empty
abbrev pub Clear : List Place → Type 0
Clear xs = (k : ℕ) → k < length xs → head_at xs k ≡ 0
