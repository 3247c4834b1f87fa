-- What the remembering tables hold.
use Rattle.std.specs.Prelude.{◌≡◌, ℕ, ◌+◌, ◌*◌, ◌-◌, ◌%◌, ◌<◌, ◌⊎◌, List, [], ◌∷◌, ◌++◌, length, drop, Some, None, Option, ◌≢◌, All, slice_index_or, slice_set, unsigned_abs}
use Rattle.std.specs.List.{HoldsAt}
use Rattle.diagrams.specs.declared.Edge.{Edge}
use Rattle.diagrams.specs.declared.Operation.{Operation}
use Rattle.diagrams.specs.declared.Operation.TheVariants.{AtMost, AtLeast, Times}
use Rattle.diagrams.specs.declared.Question.{Question}
use Rattle.diagrams.specs.Apply.{child_number}
use Rattle.memories.specs.declared.Remembered.{Remembered}

-- an operation as a number
abbrev pub operation_number : Operation → ℕ
operation_number AtMost = 0
operation_number AtLeast = 1
operation_number Times = 2

-- an edge as a number
abbrev pub edge_hash : Edge → ℕ
edge_hash x = child_number x.child * 1618033 + unsigned_abs x.constant * 2718281

-- a question as a number, which picks its slot
abbrev pub question_hash : Question → ℕ
question_hash q = edge_hash q.left + edge_hash q.right * 577 + operation_number q.operation

-- the pair of a question and its result
abbrev pub pair : Question → Edge → Remembered
pair q e = record { question = q; edge = e }

-- the pair stands in the slot of its question
abbrev pub InSlot : List (Option Remembered) → Question → Edge → Type 0
InSlot xs q e = (0 < length xs) × (slice_index_or xs (question_hash q % length xs) None ≡ Some (pair q e))

-- the pair is written where its question stood; where it stood nowhere, it is written behind the latest 63
abbrev pub Written : List Remembered → Question → Edge → List Remembered → Type 0
Written xs q e ys =
    ((i : ℕ) × (i < length xs) × HoldsAt (λ x. x.question ≡ q) xs i × (ys ≡ slice_set xs i (pair q e)))
    ⊎ (All (λ x. x.question ≢ q) xs × (ys ≡ drop (length xs - 63) xs ++ pair q e ∷ []))
