-- What a job's table and ledger hold.
use Rattle.std.specs.Prelude.{◌≡◌, ℕ, zero, suc, ◌^◌, ◌≤◌, Bool, List, [], map, length, take, pos, ◌+ℤ◌, Some, slice_index_or, unsigned_abs}
use Rattle.std.specs.List.{slice_get}
use Rattle.limits.specs.declared.Limit.{Limit}
use Rattle.limits.specs.declared.Sense.TheVariants.{AtMost}
use Rattle.limits.specs.Limits.{keeps_all}
use Rattle.diagrams.specs.declared.Node.{Node}
use Rattle.diagrams.specs.declared.Edge.{Edge}
use Rattle.diagrams.specs.declared.Child.TheVariants.{Terminal}
use Rattle.diagrams.specs.Needs.{indicator}
use Rattle.diagrams.specs.Nodes.{value, Under, Ordered}
use Rattle.diagrams.specs.Held.{Holds}
use Rattle.jobs.specs.declared.ledger.Record.{Record}

-- the edge denotes 1 where all of the limits are kept, and 0 elsewhere
abbrev pub Denotes : ℕ → List Limit → List Node → Edge → Type 0
Denotes parts ls ns e = (c : List Bool) → length c ≡ parts → e.constant +ℤ value ns 0 e.child c ≡ indicator (keeps_all ls c)

-- the nodes are those that the limits need, and the edge is the limits' product
pub record Held (parts : ℕ) (ls : List Limit) (ns : List Node) (e : Edge) : Type 0 where
  pub holds : Holds parts ns ls
  pub ordered : Ordered parts ns
  pub small : (k : ℕ) (n : Node) → slice_get ns k ≡ Some n → unsigned_abs n.value ≤ 2 ^ 29
  pub under : Under ns 0 (length ns) e.child
  pub denotes : Denotes parts ls ns e

-- the product of no limits
abbrev pub one : Edge
one = record { constant = pos 1; child = Terminal }

-- a record in which nothing stands
abbrev pub blank : Record
blank = record { limit = record { coefficients = []; sense = AtMost; bound = pos 0 }; product = one; mark = 0 }

-- the limits of the first records
abbrev pub limits_of : List Record → ℕ → List Limit
limits_of rs count = map (λ (r : Record). r.limit) (take count rs)

-- the product of the first records' limits
abbrev pub product_of : List Record → ℕ → Edge
product_of rs zero = one
product_of rs (suc k) = (slice_index_or rs k blank).product

-- the nodes are what the first records' limits need; below each record's mark, what the limits before it need
abbrev pub Books : ℕ → List Node → List Record → ℕ → Type 0
Books parts ns rs zero = Held parts [] ns one
Books parts ns rs (suc k) =
    Held parts (limits_of rs (suc k)) ns (slice_index_or rs k blank).product × ((slice_index_or rs k blank).mark ≤ length ns) × Books parts (take (slice_index_or rs k blank).mark ns) rs k
