-- The open questions of the walk.
use Rattle.std.specs.Prelude.{◌≡◌, ℕ, ◌<◌, min, true, List, [], ◌∷◌, ◌++◌, length, ℤ, None, Option}
use Rattle.diagrams.specs.declared.Edge.{Edge}
use Rattle.diagrams.specs.declared.Question.{Question}
use Rattle.diagrams.specs.Apply.{Top, Asked, Settled}
use Rattle.tables.specs.declared.NodeTable.{NodeTable}
use Rattle.walks.specs.declared.Frame.{Frame}
use Rattle.tables.specs.Places.{made, Table, part_at}

-- a question that its constants do not answer, at the least part of its nodes
pub record Opening (parts : ℕ) (ts : List (List ℤ)) (t : NodeTable) (q : Question) (j : ℕ) : Type 0 where
  pub table : Table parts ts t
  pub top : Top parts (made t) q j
  pub asked : Asked parts (made t) ts j q

-- a frame of part j
abbrev pub new_frame : Question → ℕ → Option Edge → Frame
new_frame q j e = record { question = q; part = j; fit = e }

-- q was opened on the stack s, and r asks it with its least part fitted
pub record Went (t : NodeTable) (q : Question) (s s' : List Frame) (r : Question) : Type 0 where
  pub part : ℕ
  pub part_is : part ≡ min (part_at (made t) q.left.child) (part_at (made t) q.right.child)
  pub frames : s' ≡ s ++ new_frame q part None ∷ []
  pub settled : Settled (made t) part q true r

-- q may be opened on the stack s
abbrev pub CanOpen : NodeTable → List Frame → Question → Type 0
CanOpen t s q = (parts : ℕ) × (ts : List (List ℤ)) × (j : ℕ) × Opening parts ts t q j × (length s < 48) × (j ≡ min (part_at (made t) q.left.child) (part_at (made t) q.right.child))
