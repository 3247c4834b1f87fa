-- The nodes of a table, and how many it may have.
use Rattle.std.specs.Prelude.{ℕ, min, List, length, take}
use Rattle.diagrams.specs.declared.Node.{Node}
use Rattle.tables.specs.declared.NodeTable.{NodeTable}
use Rattle.tables.specs.Buckets.{nodes_of}

-- the table's nodes, in the order of their places
abbrev pub made : NodeTable → List Node
made t = nodes_of (take t.used t.places.now)

-- how many nodes the table may have
abbrev pub room : NodeTable → ℕ
room t = min (length t.places.now) 60000
